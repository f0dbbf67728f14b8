-- The clean sheet read again: it has no fault, and says the net, the events and the kept pairs.
use Rattle.std.specs.Prelude.{ℕ, ◌<◌, ◌≤◌, false, List, ◌↔◌, ◌≡◌, length}
use Rattle.std.proofs.Common.{arith, ap, subst, ◌∙◌}
use Rattle.std.proofs.Math.Path.{sym}
use Rattle.finite.specs.Bounded.{yes_any}
use Rattle.finite.proofs.Chosen.{chosen_in, chosen_up, chosen_length}
use Rattle.finite.specs.Search.{search_none, fails}
use Rattle.finite.specs.Stands.{Bytes}
use Rattle.plan.specs.OnlyPairs.{chosen_pair, pairs_before}
use Rattle.plan.proofs.OnlyPairs.{before_same}
use Rattle.plan.specs.Order.{Before, before}
use Rattle.reasons.specs.Laws.{yes_same}
use Rattle.reasons.proofs.Laws.{kept_names, kept_ends}
use Rattle.reasons.specs.Reasons.{kept, kept_plan, kept_count, kept_cycle}
use Rattle.sheet.specs.Told.{Told}
use Rattle.sheet.specs.Faultless.{Faultless}
use Rattle.sheet.proofs.Faultless.{layout_laid}
use Rattle.sheet.specs.Faults.{same_pair, repeat_at}
use Rattle.sheet.specs.Items.{net_of, plan_of}
use Rattle.sheet.specs.Laid.{Laid}
use Rattle.sheet.specs.Table.{events_of, pairs_of}
use Rattle.writer.proofs.Lengths.{sheet_length}
use Rattle.writer.specs.ReadBack.{Writable, SaysPlan}
use Rattle.writer.proofs.ReadBack.{read_back}
use Rattle.writer.specs.WriteBack.{last_start}
use Rattle.writer.proofs.WriteBack.{written_bytes}
use Rattle.kept_pairs.specs.Clean.{clean_of}
use Rattle.mending.specs.Mendable.{Mendable}

module _ (s : List ℕ) (known : Mendable s) where
  writable : Writable (net_of s) (kept_plan s)
  writable =
      let few = known.laid.limited in
      let good = known.numbers in
      record {
        places = few.places;
        transitions = few.transitions;
        events = few.events;
        pairs = omega (arith, few.pairs, chosen_length (kept s) (pairs_of s));
        opening = λ p l. omega (arith, good.openings p l);
        takes = λ t p l m. omega (arith, good.takes t p l m);
        gives = λ t p l m. omega (arith, good.gives t p l m);
        label = λ v l. omega (arith, good.labels v l, few.transitions);
        earlier = λ k l. omega (arith, (kept_ends s k l).0, few.events);
        later = λ k l. omega (arith, (kept_ends s k l).1, few.events);
      }

  -- the sheet says what was written
  pub clean_says : SaysPlan (clean_of s) (net_of s) (kept_plan s)
  unfolding clean_of
  clean_says = read_back (net_of s) (kept_plan s) writable

  clean_laid : Laid (clean_of s)
  clean_laid = layout_laid (clean_of s) (ap (λ (f : Told). f.number) clean_says.no_layout_fault)

  pub clean_bytes : Bytes (clean_of s)
  unfolding clean_of
  clean_bytes = written_bytes (net_of s) (kept_plan s)

  pub clean_length : length (clean_of s) ≤ length s
  unfolding clean_of
  clean_length =
      omega (arith, sheet_length (net_of s) (kept_plan s), chosen_length (kept s) (pairs_of s), known.laid.end, last_start s known.laid)

  pub clean_before : (u v : ℕ) → Before (plan_of (clean_of s)) u v ↔ Before (kept_plan s) u v
  clean_before = pairs_before (plan_of (clean_of s)) (kept_plan s) clean_says.pairs

  -- no two of the kept pairs are the same
  once : (i j : ℕ) → i < j → j < kept_count s → (kept_plan s).earlier i ≡ (kept_plan s).earlier j → ¬ ((kept_plan s).later i ≡ (kept_plan s).later j)
  unfolding repeat_at
  once i j l m earlier later =
      let a = chosen_pair (plan_of s) (kept s) i in
      let b = chosen_pair (plan_of s) (kept s) j in
      let new = (kept_names s b (chosen_in (kept s) (pairs_of s) j m).1).1 in
      fails (repeat_at s b) new (yes_any b (same_pair s b) a (chosen_up (kept s) (pairs_of s) i j l m) (yes_same s b a (record { earlier = sym earlier; later = sym later })))

  acyclic : (v : ℕ) → v < events_of s → before (plan_of (clean_of s)) v v ≡ false
  unfolding kept_cycle
  acyclic v l =
      before_same (plan_of (clean_of s)) (kept_plan s) clean_before v v ∙ search_none (events_of s) (λ v. before (kept_plan s) v v) known.acyclic v l

  pub clean_faultless : Faultless (clean_of s)
  clean_faultless =
      let net = clean_says.net in
      let events = clean_says.events in
      let pairs = clean_says.pairs in
      let good = known.numbers in
      record {
        laid = clean_laid;
        openings = λ p l. subst (λ (n : ℕ). n ≤ 1000000) (sym (net.opening p l)) (good.openings p (omega (arith, net.places)));
        takes = λ t p l m. subst (λ (n : ℕ). n ≤ 1000) (sym (net.takes t p l m)) (good.takes t p (omega (arith, net.transitions)) (omega (arith, net.places)));
        gives = λ t p l m. subst (λ (n : ℕ). n ≤ 1000) (sym (net.gives t p l m)) (good.gives t p (omega (arith, net.transitions)) (omega (arith, net.places)));
        labels = λ v l. omega (arith, events.labels v l, good.labels v (omega (arith, events.events)), net.transitions);
        earlier = λ i l. omega (arith, pairs.earlier i l, (kept_ends s i (omega (arith, pairs.pairs))).0, events.events);
        later = λ i l. omega (arith, pairs.later i l, (kept_ends s i (omega (arith, pairs.pairs))).1, events.events);
        apart = λ i l e. (kept_ends s i (omega (arith, pairs.pairs))).2 (sym (pairs.earlier i l) ∙ e ∙ pairs.later i l);
        once = λ i j l m e d.
            let low : i < pairs_of (clean_of s) = omega arith in
            once
            i
            j
            l
            (omega (arith, pairs.pairs))
            (sym (pairs.earlier i low) ∙ e ∙ pairs.earlier j m)
            (sym (pairs.later i low) ∙ d ∙ pairs.later j m);
        acyclic = λ v l. acyclic v (omega (arith, events.events));
      }
