-- Write after read: the net and the plan of a sheet without fault of the layout, written again, are the same bytes.
use Rattle.std.specs.Prelude.{ℕ, ◌+◌, ◌-◌, ◌*◌, ◌<◌, ◌≤◌, ◌≡◌, get_or}
use Rattle.std.proofs.Common.{arith, subst, ◌∙◌}
use mathlib.Core.List.{List, ◌++◌}
use Rattle.std.proofs.Math.Path.{refl, sym, ap, ap₂}
use Rattle.std.proofs.Math.ListN.{length}
use Rattle.std.proofs.Math.Seq.{slice, length-slice}
use Rattle.finite.specs.Each.{each, each_ext}
use Rattle.finite.specs.Stands.{Bytes, Stands, stands_same, stands_both, stands_each, stands_part, part_at, bytes_both, bytes_each}
use Rattle.layout.specs.declared.Layout.{Layout}
use Rattle.layout.specs.Layout.{places_at, transitions_at, events_at, pairs_at}
use Rattle.numbers.specs.Number.{number, bytes, bytes_length, bytes_bytes, write_number}
use Rattle.plan.specs.Compare.{SameNet, SameEvents, SamePairs}
use Rattle.plan.specs.Net.{Net, Plan}
use Rattle.sheet.specs.Items.{opening_at, takes_at, gives_at, label_at, earlier_at, later_at, net_of, plan_of}
use Rattle.sheet.specs.Laid.{Laid, item_within}
use Rattle.sheet.specs.Table.{table_length, start, count, item, item_length, places_of, transitions_of, events_of, pairs_of}
use Rattle.writer.specs.Lengths.{entry_length, two_entries, three_entries, table_length_lem, openings_length, takes_length, pair_length}
use Rattle.writer.proofs.Lengths.{transition_length, nets_length, body_length, front_length, sheet_length}
use Rattle.writer.specs.Written.{entry, table, opening_bytes, transition_bytes, weight_bytes, label_bytes, pair_bytes, order_bytes, body_bytes, bytes_of, layout_of}
use Rattle.writer.specs.WriteBack.{BytesWithin, last_start, within}

module _ (s : List ℕ) (from to : ℕ) (small : BytesWithin s from to) where
  -- what is read at a position stands there
  here : (k at : ℕ) → from ≤ at → at + k ≤ to → (n : ℕ) → number k s at ≡ n → Stands s at (bytes k n)
  here k at l m n is =
      subst (λ (x : ℕ). Stands s at (bytes k x)) is (write_number k s at (λ i h. small (at + i) (omega arith) (omega arith)))

  two_here : (k at : ℕ) → from ≤ at → at + k + k ≤ to → (a b : ℕ) → number k s at ≡ a → number k s (at + k) ≡ b → Stands s at (bytes k a ++ bytes k b)
  two_here k at l m a b is next =
      stands_both
      s
      at
      (bytes k a)
      (bytes k b)
      (here k at l (omega arith) a is)
      (subst (λ (n : ℕ). Stands s (at + n) (bytes k b)) (sym (bytes_length k a)) (here k (at + k) (omega arith) m b next))

  numbers_here : (k at n : ℕ) (f : ℕ → ℕ) → from ≤ at → at + k * n ≤ to → ((i : ℕ) → i < n → number k s (at + k * i) ≡ f i) → Stands s at (each n (λ i. bytes k (f i)))
  numbers_here k at n f l m is =
      stands_each s at k (λ i. bytes k (f i)) n (λ i h. bytes_length k (f i)) (λ i h.
      here k (at + k * i) (omega arith) (omega (arith, item_within k i n h)) (f i) (is i h))

module _ (s : List ℕ) (known : Laid s) where
  -- where an item stands
  item_at : (e i w : ℕ) → item_length s e ≡ w → start s e + w * i ≡ item s e i
  unfolding item
  item_at e i w long = rw long refl

  module _ (small : BytesWithin s table_length (start s 3)) where
    openings_here : Stands s table_length (opening_bytes (net_of s))
    unfolding opening_bytes opening_at item_length
    openings_here =
        let within : table_length + 4 * places_of s ≤ start s 3 = omega (arith, known.transitions_start, known.events_start, known.pairs_start, known.places_start) in
        numbers_here s table_length (start s 3) small 4 table_length (places_of s) (opening_at s) (omega arith) within (λ p h.
        ap (number 4 s) (ap (λ (n : ℕ). n + 4 * p) (sym known.places_start) ∙ item_at 0 p 4 refl))

    transition_here : (t : ℕ) → t < transitions_of s → Stands s (start s 1 + 4 * places_of s * t) (transition_bytes (net_of s) t)
    unfolding transition_bytes takes_at gives_at item_length
    transition_here t h =
        let begin = start s 1 + 4 * places_of s * t in
        let there = item_at 1 t (4 * places_of s) refl in
        let takes = each (places_of s) (λ p. bytes 2 (takes_at s t p)) in
        let gives = each (places_of s) (λ p. bytes 2 (gives_at s t p)) in
        let low : table_length ≤ start s 1 = omega (arith, known.transitions_start, known.places_start) in
        let high : begin + 4 * places_of s ≤ start s 3 = omega (arith, item_within (4 * places_of s) t (transitions_of s) h, known.events_start, known.pairs_start) in
        stands_both
        s
        begin
        takes
        gives
        (numbers_here s table_length (start s 3) small 2 begin (places_of s) (takes_at s t) (omega (arith, low)) (omega (arith, high)) (λ p m. ap (λ (n : ℕ). number 2 s (n + 2 * p)) there))
        (subst
        (λ (n : ℕ). Stands s (begin + n) gives)
        (sym (takes_length (net_of s) t))
        (numbers_here s table_length (start s 3) small 2 (begin + 2 * places_of s) (places_of s) (gives_at s t) (omega (arith, low)) (omega (arith, high)) (λ p m.
        let place : begin + 2 * places_of s + 2 * p ≡ item s 1 t + 2 * (places_of s + p) = omega (arith, there) in
        ap (number 2 s) place)))

    labels_here : Stands s (start s 2) (label_bytes (plan_of s))
    unfolding label_bytes label_at item_length
    labels_here =
        let after : table_length ≤ start s 2 = omega (arith, known.events_start, known.transitions_start, known.places_start) in
        numbers_here s table_length (start s 3) small 2 (start s 2) (events_of s) (label_at s) after (omega (arith, known.pairs_start)) (λ v h.
        ap (number 2 s) (item_at 2 v 2 refl))

    -- what stands between the table and the pairs
    bodies_here : Stands s table_length (body_bytes (net_of s) (plan_of s))
    unfolding body_bytes weight_bytes
    bodies_here =
        let weights = stands_each s (start s 1) (4 * places_of s) (transition_bytes (net_of s)) (transitions_of s) (λ t h. transition_length (net_of s) t) transition_here in
        let one : start s 1 ≡ table_length + length (opening_bytes (net_of s)) = omega (arith, openings_length (net_of s), known.transitions_start, known.places_start) in
        let two : start s 2 ≡ table_length + length (opening_bytes (net_of s) ++ weight_bytes (net_of s)) =
        omega (arith, nets_length (net_of s) (plan_of s), known.events_start, known.transitions_start, known.places_start) in
        stands_both
        s
        table_length
        (opening_bytes (net_of s) ++ weight_bytes (net_of s))
        (label_bytes (plan_of s))
        (stands_both s table_length (opening_bytes (net_of s)) (weight_bytes (net_of s)) openings_here (subst (λ (n : ℕ). Stands s n (weight_bytes (net_of s))) one weights))
        (subst (λ (n : ℕ). Stands s n (label_bytes (plan_of s))) two labels_here)

  -- That part of the sheet, as it is copied.
  pub bodies_part : Bytes (slice table_length (start s 3) s) → slice table_length (start s 3) s ≡ body_bytes (net_of s) (plan_of s)
  bodies_part small =
      stands_part s table_length (start s 3) (body_bytes (net_of s) (plan_of s)) (omega (arith, body_length (net_of s) (plan_of s), ends)) within (bodies_here each_small)
    where
      ends : start s 3 ≡ pairs_at (layout_of (net_of s) (plan_of s))
      ends = last_start s known

      within : start s 3 ≤ length s
      within = omega (arith, known.end)

      each_small : BytesWithin s table_length (start s 3)
      each_small i l m =
          let j = i - table_length in
          let there : table_length + j ≡ i = omega arith in
          let in-part = part_at s table_length (start s 3) j (omega arith) ∙ ap (λ (n : ℕ). get_or s n 0) there in
          subst (λ (n : ℕ). n < 256) in-part (small j (omega (arith, length-slice table_length (start s 3) s within)))

  module _ (all : Bytes s) where
    -- a list that stands at a position, by the length of what is before it
    after : (xs : List ℕ) (a b : ℕ) → a ≡ b → Stands s b xs → Stands s (0 + a) xs
    after xs a b e here = let there : b ≡ 0 + a = omega arith in subst (λ (n : ℕ). Stands s n xs) there here

    table_here : Stands s 0 (table (layout_of (net_of s) (plan_of s)))
    unfolding table entry start count
    table_here =
        let l = layout_of (net_of s) (plan_of s) in
        let e0 = entry (places_at l) l.places in
        let e1 = entry (transitions_at l) l.transitions in
        let e2 = entry (events_at l) l.events in
        let e3 = entry (pairs_at l) l.pairs in
        let four = two_here s 0 (length s) (within s known all 0 (length s) (omega arith)) 4 in
        let long = known.limited.table in
        let transitions-is : start s 1 ≡ transitions_at l = omega (arith, known.transitions_start, known.places_start) in
        let events-is : start s 2 ≡ events_at l = omega (arith, known.events_start, transitions-is) in
        let a = four 0 (omega arith) (omega (arith, long)) (places_at l) l.places known.places_start refl in
        let b = four 8 (omega arith) (omega (arith, long)) (transitions_at l) l.transitions transitions-is refl in
        let c = four 16 (omega arith) (omega (arith, long)) (events_at l) l.events events-is refl in
        let d = four 24 (omega arith) (omega (arith, long)) (pairs_at l) l.pairs (last_start s known) refl in
        let two = stands_both s 0 e0 e1 a (after e1 (length e0) 8 (entry_length (places_at l) l.places) b) in
        let three = stands_both s 0 (e0 ++ e1) e2 two (after e2 (length (e0 ++ e1)) 16 (two_entries l) c) in
        stands_both s 0 (e0 ++ e1 ++ e2) e3 three (after e3 (length (e0 ++ e1 ++ e2)) 24 (three_entries l) d)

    order_here : Stands s (start s 3) (order_bytes (plan_of s))
    unfolding order_bytes pair_bytes earlier_at later_at item_length
    order_here =
        stands_each s (start s 3) 4 (λ i. pair_bytes (earlier_at s i) (later_at s i)) (pairs_of s) (λ i h. pair_length (earlier_at s i) (later_at s i)) (λ i h.
        let there = item_at 3 i 4 refl in
        let fits : start s 3 + 4 * i + 2 + 2 ≤ length s = omega (arith, item_within 4 i (pairs_of s) h, known.end) in
        let second = ap (λ (n : ℕ). number 2 s (n + 2)) there in
        two_here s 0 (length s) (within s known all 0 (length s) (omega arith)) 2 (start s 3 + 4 * i) (omega arith) fits (earlier_at s i) (later_at s i) (ap (number 2 s) there) second)

    -- Written again, a sheet is the same.
    pub write_back : bytes_of (net_of s) (plan_of s) ≡ s
    unfolding bytes_of
    write_back =
        let N = net_of s in
        let P = plan_of s in
        let bodies = bodies_here (within s known all table_length (start s 3) (omega (arith, known.end))) in
        let front = stands_both s 0 (table (layout_of N P)) (body_bytes N P) table_here (after (body_bytes N P) _ _ (table_length_lem (layout_of N P)) bodies) in
        let whole = stands_both s 0 (table (layout_of N P) ++ body_bytes N P) (order_bytes P) front (after (order_bytes P) _ _ (front_length N P ∙ sym (last_start s known)) order_here) in
        sym (stands_same s (bytes_of N P) (omega (arith, known.end, last_start s known, sheet_length N P)) whole)

-- What is written goes by the items.
module _ (N M : Net) (P Q : Plan) (nets : SameNet N M) (events : SameEvents P Q) where
  bodies_same : body_bytes N P ≡ body_bytes M Q
  unfolding body_bytes opening_bytes weight_bytes transition_bytes label_bytes
  bodies_same =
      ap₂ ◌++◌ (ap₂ ◌++◌ opened weighed) (ap (λ (n : ℕ). each n (λ v. bytes 2 (P.label v))) events.events ∙ each_ext _ _ _ (λ v l. ap (bytes 2) (events.labels v (omega (arith, events.events)))))
    where
      opened : opening_bytes N ≡ opening_bytes M
      opened = ap (λ (n : ℕ). each n (λ p. bytes 4 (N.opening p))) nets.places ∙ each_ext _ _ _ (λ p l. ap (bytes 4) (nets.opening p (omega (arith, nets.places))))

      numbers : (f g : ℕ → ℕ) → ((p : ℕ) → p < N.places → f p ≡ g p) → each N.places (λ p. bytes 2 (f p)) ≡ each M.places (λ p. bytes 2 (g p))
      numbers f g same = ap (λ (n : ℕ). each n (λ p. bytes 2 (f p))) nets.places ∙ each_ext _ _ _ (λ p l. ap (bytes 2) (same p (omega (arith, nets.places))))

      weighed : weight_bytes N ≡ weight_bytes M
      weighed =
          ap (λ (n : ℕ). each n (transition_bytes N)) nets.transitions
          ∙ each_ext _ _ _ (λ t l.
          let below : t < N.transitions = omega (arith, nets.transitions) in
          ap₂ ◌++◌ (numbers (N.takes t) (M.takes t) (λ p h. nets.takes t p below h)) (numbers (N.gives t) (M.gives t) (λ p h. nets.gives t p below h)))

  pub written_same : SamePairs P Q → bytes_of N P ≡ bytes_of M Q
  unfolding bytes_of order_bytes
  written_same pairs = ap₂ ◌++◌ (ap₂ ◌++◌ (ap table laid) bodies_same) ordered
    where
      laid : layout_of N P ≡ layout_of M Q
      laid = simp (nets.places, nets.transitions, events.events, pairs.pairs)

      ordered : order_bytes P ≡ order_bytes Q
      ordered =
          ap (λ (n : ℕ). each n (λ i. pair_bytes (P.earlier i) (P.later i))) pairs.pairs
          ∙ each_ext _ _ _ (λ i l. let below : i < P.pairs = omega (arith, pairs.pairs) in ap₂ pair_bytes (pairs.earlier i below) (pairs.later i below))

-- What is written are bytes.
module _ (N : Net) (P : Plan) where
  two_bytes : (k a b : ℕ) → Bytes (bytes k a ++ bytes k b)
  two_bytes k a b = bytes_both (bytes k a) (bytes k b) (bytes_bytes k a) (bytes_bytes k b)

  numbers_bytes : (k n : ℕ) (f : ℕ → ℕ) → Bytes (each n (λ i. bytes k (f i)))
  numbers_bytes k n f = bytes_each n (λ i. bytes k (f i)) (λ i l. bytes_bytes k (f i))

  table_bytes : (l : Layout) → Bytes (table l)
  unfolding table entry
  table_bytes l =
      let e0 = entry (places_at l) l.places in
      let e1 = entry (transitions_at l) l.transitions in
      let e2 = entry (events_at l) l.events in
      let e3 = entry (pairs_at l) l.pairs in
      let two = bytes_both e0 e1 (two_bytes 4 (places_at l) l.places) (two_bytes 4 (transitions_at l) l.transitions) in
      let three = bytes_both (e0 ++ e1) e2 two (two_bytes 4 (events_at l) l.events) in
      bytes_both (e0 ++ e1 ++ e2) e3 three (two_bytes 4 (pairs_at l) l.pairs)

  transition_bytes_lem : (t : ℕ) → Bytes (transition_bytes N t)
  unfolding transition_bytes
  transition_bytes_lem t =
      bytes_both
      (each N.places (λ p. bytes 2 (N.takes t p)))
      (each N.places (λ p. bytes 2 (N.gives t p)))
      (numbers_bytes 2 N.places (N.takes t))
      (numbers_bytes 2 N.places (N.gives t))

  body_bytes_lem : Bytes (body_bytes N P)
  unfolding body_bytes opening_bytes weight_bytes label_bytes
  body_bytes_lem =
      let weights = bytes_each N.transitions (transition_bytes N) (λ t h. transition_bytes_lem t) in
      let nets = bytes_both (opening_bytes N) (weight_bytes N) (numbers_bytes 4 N.places N.opening) weights in
      bytes_both (opening_bytes N ++ weight_bytes N) (label_bytes P) nets (numbers_bytes 2 P.events P.label)

  order_bytes_lem : Bytes (order_bytes P)
  unfolding order_bytes pair_bytes
  order_bytes_lem = bytes_each P.pairs (λ i. pair_bytes (P.earlier i) (P.later i)) (λ i h. two_bytes 2 (P.earlier i) (P.later i))

  pub written_bytes : Bytes (bytes_of N P)
  unfolding bytes_of
  written_bytes =
      let front = bytes_both (table (layout_of N P)) (body_bytes N P) (table_bytes (layout_of N P)) body_bytes_lem in
      bytes_both (table (layout_of N P) ++ body_bytes N P) (order_bytes P) front order_bytes_lem
