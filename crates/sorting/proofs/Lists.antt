-- What the lists say of the numbers in them, and where a walk along one leads.
use Prim.Native.Nat.{ℕ, ◌+◌, ◌-◌, ◌≤◌, ◌<◌}
use native.Mathlib.Omega.{arith}
use mathlib.Core.List.{List}
use mathlib.Core.Path.{◌≡◌, refl, ap, ◌∙◌}
use lib.ListN.{get_or}
use Rattle.finite.specs.Count.{count_le}
use Rattle.finite.specs.Last.{last, last_le}
use Rattle.finite.specs.Queue.{queued_le}
use Rattle.finite.specs.Subset.{empty}
use Rattle.ids.specs.Limits.{most_events}
use Rattle.plan.specs.Net.{Plan}
use Rattle.plan.specs.Order.{Named}
use Rattle.sorting.specs.Sorted.{Round}
use Rattle.sorting.specs.Steps.{Lowered}
use Rattle.sorting.specs.Waiting.{starts_at, waits_for, Lists, Listed}
use Rattle.sorting.specs.declared.PairLists.{PairLists}
use Rattle.sorting.proofs.Seeding.{is_ready}
use Rattle.sorting.proofs.Walks.{Walk, walk_start, walk_end, walk_more, step_pair, step_some, step_room}

module _ (P : Plan) where
  -- no event waits for more pairs than there are
  pub waits_few : {lists : PairLists} {left : List ℕ} {m : ℕ} → Listed P lists left m → (v : ℕ) → v < most_events → get_or left v 0 ≤ m
  waits_few {m = m} listed v l = omega (arith, listed.waits.counts v l, count_le m (waits_for P empty v))

  -- an event of the queue
  pub queued_event : (left queue : List ℕ) (h n : ℕ) → Round P left queue h n → h < n → get_or queue h 0 < P.events
  queued_event left queue h n round room = (is_ready P.events (get_or queue h 0) left (round.queued.listed h room)).0

  pub queued_few : (left queue : List ℕ) (h n : ℕ) → Round P left queue h n → n ≤ P.events
  queued_few left queue h n round = queued_le round.queued

  -- Along the list of the event at h.
  module _ (l : PairLists) (old : List ℕ) (h : ℕ) (lists : Lists P P.pairs l) (few : P.events ≤ most_events) (named : Named P) where
    abbrev Walking : ℕ → List ℕ → List ℕ → ℕ → Type 0
    Walking at left queue n = Walk P old h (get_or old h 0) at left queue n

    pub walking_start : (left : List ℕ) (n : ℕ) → Round P left old h n → h < n → Walking (get_or l.first (get_or old h 0) 0) left old n
    walking_start left n round room =
        let event = queued_event left old h n round room in
        walk_start P old h (get_or old h 0) left n (get_or l.first (get_or old h 0) 0) round room (lists.heads (get_or old h 0) (omega (arith, event, few)))

    pub walking_end : (left queue : List ℕ) (n at : ℕ) → Walking at left queue n → at ≡ 0 → Round P left queue (h + 1) n
    walking_end left queue n at walk none = walk_end P old h (get_or old h 0) refl left queue n at walk none

    module _ (left queue : List ℕ) (n at : ℕ) (walk : Walking at left queue n) (some : 0 < at) where
      at_k : at ≡ (at - 1) + 1
      at_k = omega (arith, some)

      pair : (at - 1 < P.pairs) × (P.earlier (at - 1) ≡ get_or old h 0)
      pair = step_pair P old h (get_or old h 0) refl left queue n at (at - 1) walk at_k

      pub walking_pair : at - 1 < P.pairs
      walking_pair = pair.0

      link : get_or l.next (at - 1) 0 ≡ last (at - 1) (starts_at P (get_or old h 0))
      link = lists.links (at - 1) pair.0 ∙ ap (λ (u : ℕ). last (at - 1) (starts_at P u)) pair.1

      -- the next pair of the list is an earlier one
      pub walking_less : get_or l.next (at - 1) 0 < at
      walking_less = omega (arith, some, link, last_le (starts_at P (get_or old h 0)) (at - 1))

      event : P.later (at - 1) < P.events
      event = named.later (at - 1) pair.0

      pub walking_needs : (P.later (at - 1) < most_events) × (1 ≤ get_or left (P.later (at - 1)) 0) × (n < most_events)
      walking_needs = (
        omega (arith, event, few),
        step_some P old h (get_or old h 0) refl left queue n at (at - 1) walk at_k (P.later (at - 1)) refl event few,
        step_room P old h (get_or old h 0) refl left queue n at (at - 1) walk at_k (P.later (at - 1)) refl event few,
      )

      pub walking_more : {left' queue' : List ℕ} {n' : ℕ} → Lowered left queue left' queue' (P.later (at - 1)) n n' → Walking (get_or l.next (at - 1) 0) left' queue' n'
      walking_more low =
          walk_more P old h (get_or old h 0) refl left queue n at (at - 1) walk at_k (P.later (at - 1)) refl event few low (get_or l.next (at - 1) 0) link
