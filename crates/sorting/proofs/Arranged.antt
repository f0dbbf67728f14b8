-- Once no event is left out, all events are in a queue, in an order in which what is before comes first.
use Rattle.std.specs.Prelude.{ℕ, ◌≤◌, ◌<◌, List, ◌≡◌, T, ltb, get_or}
use Rattle.std.proofs.Common.{arith, ⊎_elim, T_not, ltb→lt}
use Rattle.std.proofs.Math.Facts.{and_yes}
use Rattle.finite.specs.Bounded.{decide}
use Rattle.finite.specs.Count.{count_room}
use Rattle.finite.specs.Queue.{queued_le}
use Rattle.plan.specs.Net.{Plan}
use Rattle.sorting.specs.Sorted.{ready, Round, SortedTo}
use Rattle.sorting.specs.Arranged.{Arranged, Sorted}
use Rattle.sorting.specs.declared.Sorting.{Sorting}

-- Where no event is left out, they are so arranged.
all_arranged : (P : Plan) (left queue : List ℕ) (n : ℕ) → Round P left queue n n → n ≡ P.events → Arranged P queue
all_arranged P left queue n round all =
    record {
      events = λ k l. ltb→lt (get_or queue k 0) P.events (and_yes (ltb (get_or queue k 0) P.events) _ (round.queued.listed k (omega (arith, all)))).0;
      placed = λ v l. let at = round.queued.placed v (queued v l) in (at.0, omega (arith, at.1, all), at.2);
      once = λ i k l h. round.queued.once i k l (omega (arith, all));
      ordered = λ k i l. round.ordered k i (omega (arith, all));
    }
  where
    queued : (v : ℕ) → v < P.events → T (ready P.events left v)
    queued v l =
        ⊎_elim
        (λ t. t)
        (λ out.
        absurd
        (omega (arith, all, round.queued.counted, count_room P.events v (ready P.events left) l (T_not (ready P.events left v) out))))
        (decide (ready P.events left v))

pub all_sorted : {P : Plan} {s : Sorting} {n : ℕ} → SortedTo P s n → P.events ≤ n → Sorted P s
all_sorted sorted most =
    record {
      lists = sorted.lists;
      arranged = all_arranged _ sorted.left _ _ sorted.round (omega (arith, most, queued_le sorted.round.queued));
    }
