-- Read after write: the bytes that were written for a net and a plan say that net and that plan.
use Rattle.std.specs.Prelude.{ℕ, ◌+◌, ◌*◌, ◌^◌, ◌<◌, ◌≡◌, length}
use Rattle.std.proofs.Common.{arith, ap₂, ◌∙◌}
use mathlib.Core.List.{List, ◌++◌}
use Rattle.std.proofs.Math.Path.{refl, sym, ap, subst}
use Rattle.finite.specs.Each.{each}
use Rattle.finite.specs.Stands.{Stands, stands_self, stands_left, stands_right, each_stands}
use Rattle.layout.specs.declared.Layout.{Layout}
use Rattle.layout.specs.Layout.{places_at, transitions_at, events_at, pairs_at, LayoutOf, WithinLimits, FourBytes}
use Rattle.numbers.specs.Number.{number, bytes, bytes_length, read_number}
use Rattle.plan.specs.Compare.{SameNet, SameEvents, SamePairs}
use Rattle.plan.specs.Net.{Net, Plan}
use Rattle.sheet.specs.Clear.{none_first}
use Rattle.sheet.proofs.Clear.{layout_clear}
use Rattle.sheet.specs.Faults.{layout_faults}
use Rattle.sheet.specs.Items.{opening_at, takes_at, gives_at, label_at, earlier_at, later_at, net_of, plan_of}
use Rattle.sheet.specs.Laid.{Laid, weights_fit}
use Rattle.sheet.specs.Table.{table_length, start, count, item, item_length}
use Rattle.writer.specs.Lengths.{entry_length, two_entries, three_entries, table_length_lem, openings_length, takes_length, pair_length}
use Rattle.writer.proofs.Lengths.{transition_length, nets_length, front_length, sheet_length}
use Rattle.writer.specs.Written.{entry, table, opening_bytes, transition_bytes, weight_bytes, label_bytes, pair_bytes, order_bytes, body_bytes, bytes_of, layout_of}
use Rattle.writer.specs.ReadBack.{Writable, SaysPlan}

module _ (s : List ℕ) where
  -- a list that stands at a position, by another name of it
  moved : (xs : List ℕ) (a b : ℕ) → a ≡ b → Stands s a xs → Stands s b xs
  moved xs a b e here = subst (λ (n : ℕ). Stands s n xs) e here

  counted : (xs : List ℕ) (a b : ℕ) → a ≡ b → Stands s (0 + a) xs → Stands s b xs
  counted xs a b e here = moved xs (0 + a) b (omega arith) here

  -- two numbers of k bytes, one after the other
  two_read : (k at first second : ℕ) → first < 256 ^ k → second < 256 ^ k → Stands s at (bytes k first ++ bytes k second)
      → (number k s at ≡ first) × (number k s (at + k) ≡ second)
  two_read k at first second l m here = (
    read_number k first s at l (stands_left s at (bytes k first) (bytes k second) here),
    read_number
        k
        second
        s
        (at + k)
        m
        (moved (bytes k second) _ _ (ap (λ (n : ℕ). at + n) (bytes_length k first)) (stands_right s at (bytes k first) (bytes k second) here)),
  )

  -- numbers of k bytes each
  numbers_read : (k at n : ℕ) (f : ℕ → ℕ) → ((i : ℕ) → i < n → f i < 256 ^ k) → Stands s at (each n (λ i. bytes k (f i))) → (i : ℕ) → i < n → number k s (at + k * i) ≡ f i
  numbers_read k at n f fits here i l =
      read_number k (f i) s (at + k * i) (fits i l) (each_stands s at k (λ i. bytes k (f i)) n (λ i l. bytes_length k (f i)) here i l)

  -- the table says its layout
  table_says : (l : Layout) → WithinLimits l → FourBytes l → Stands s 0 (table l) → LayoutOf s l
  unfolding table entry start count
  table_says l within four here =
      let e0 = entry (places_at l) l.places in
      let e1 = entry (transitions_at l) l.transitions in
      let e2 = entry (events_at l) l.events in
      let e3 = entry (pairs_at l) l.pairs in
      let three = stands_left s 0 (e0 ++ e1 ++ e2) e3 here in
      let two = stands_left s 0 (e0 ++ e1) e2 three in
      let a = two_read 4 0 _ _ four.places (omega (arith, within.places)) (stands_left s 0 e0 e1 two) in
      let b = two_read 4 8 _ _ four.transitions (omega (arith, within.transitions)) (counted e1 _ _ (entry_length (places_at l) l.places) (stands_right s 0 e0 e1 two)) in
      let c = two_read 4 16 _ _ four.events (omega (arith, within.events)) (counted e2 _ _ (two_entries l) (stands_right s 0 (e0 ++ e1) e2 three)) in
      let d = two_read 4 24 _ _ four.pairs (omega (arith, within.pairs)) (counted e3 _ _ (three_entries l) (stands_right s 0 (e0 ++ e1 ++ e2) e3 here)) in
      record {
        places = sym a.1;
        transitions = sym b.1;
        events = sym c.1;
        pairs = sym d.1;
        places_at_lem = sym a.0;
        transitions_at_lem = sym b.0;
        events_at_lem = sym c.0;
        pairs_at_lem = sym d.0;
      }

-- the layout of what is written can be written
layout_within : (N : Net) (P : Plan) → Writable N P → WithinLimits (layout_of N P)
layout_within N P fits = record { places = fits.places; transitions = fits.transitions; events = fits.events; pairs = fits.pairs }

layout_fits : (N : Net) (P : Plan) → Writable N P → FourBytes (layout_of N P)
layout_fits N P fits =
    let most = weights_fit N.places N.transitions fits.places fits.transitions in
    record {
      places = omega arith;
      transitions = omega (arith, fits.places);
      events = omega (arith, fits.places, most);
      pairs = omega (arith, fits.places, fits.events, most);
    }

module _ (N : Net) (P : Plan) (fits : Writable N P) (s : List ℕ) (written : s ≡ bytes_of N P) where
  -- what stands where in the sheet
  all : Stands s 0 (table (layout_of N P) ++ body_bytes N P ++ order_bytes P)
  unfolding bytes_of
  all = subst (λ (xs : List ℕ). Stands s 0 xs) written (stands_self s)

  front : Stands s 0 (table (layout_of N P) ++ body_bytes N P)
  front = stands_left s 0 (table (layout_of N P) ++ body_bytes N P) (order_bytes P) all

  body : Stands s table_length (opening_bytes N ++ weight_bytes N ++ label_bytes P)
  unfolding body_bytes
  body = counted s (body_bytes N P) _ _ (table_length_lem (layout_of N P)) (stands_right s 0 (table (layout_of N P)) (body_bytes N P) front)

  net_body : Stands s table_length (opening_bytes N ++ weight_bytes N)
  net_body = stands_left s table_length (opening_bytes N ++ weight_bytes N) (label_bytes P) body

  laid_out : LayoutOf s (layout_of N P)
  laid_out =
      table_says s (layout_of N P) (layout_within N P fits) (layout_fits N P fits) (stands_left s 0 (table (layout_of N P)) (body_bytes N P) front)

  size : length s ≡ pairs_at (layout_of N P) + 4 * P.pairs
  size = ap length written ∙ sheet_length N P

  -- no fault of the layout
  reads_laid : Laid s
  reads_laid =
      let is = laid_out in
      let products = ap₂ (λ (a b : ℕ). 4 * a * b) is.places is.transitions in
      record {
        limited =
            record {
              table = omega (arith, size);
              places = omega (arith, is.places, fits.places);
              transitions = omega (arith, is.transitions, fits.transitions);
              events = omega (arith, is.events, fits.events);
              pairs = omega (arith, is.pairs, fits.pairs);
            };
        places_start = sym is.places_at_lem;
        transitions_start = omega (arith, is.places_at_lem, is.transitions_at_lem, is.places);
        events_start = omega (arith, is.transitions_at_lem, is.events_at_lem, products);
        pairs_start = omega (arith, is.events_at_lem, is.pairs_at_lem, is.events);
        end = omega (arith, size, is.pairs_at_lem, is.pairs);
      }

  -- where an item stands
  item_at : (e i w at : ℕ) → start s e ≡ at → item_length s e ≡ w → item s e i ≡ at + w * i
  unfolding item
  item_at e i w at begins long = rw (begins, long) refl

  reads_opening : (p : ℕ) → p < N.places → opening_at s p ≡ N.opening p
  unfolding opening_at opening_bytes item_length
  reads_opening p h =
      ap (number 4 s) (item_at 0 p 4 table_length (sym laid_out.places_at_lem) refl)
      ∙ numbers_read s 4 table_length N.places N.opening fits.opening (stands_left s table_length (opening_bytes N) (weight_bytes N) net_body) p h

  transitions_here : Stands s (transitions_at (layout_of N P)) (weight_bytes N)
  transitions_here =
      moved s (weight_bytes N) _ _ (ap (λ (n : ℕ). table_length + n) (openings_length N)) (stands_right s table_length (opening_bytes N) (weight_bytes N) net_body)

  module _ (t : ℕ) (below : t < N.transitions) where
    -- its takes and its gives
    abbrev taken_here : List ℕ
    taken_here = each N.places (λ p. bytes 2 (N.takes t p))

    abbrev given_here : List ℕ
    given_here = each N.places (λ p. bytes 2 (N.gives t p))

    transition_at : item s 1 t ≡ transitions_at (layout_of N P) + 4 * N.places * t
    unfolding item_length
    transition_at = item_at 1 t (4 * N.places) (transitions_at (layout_of N P)) (sym laid_out.transitions_at_lem) (ap (λ (n : ℕ). 4 * n) (sym laid_out.places))

    transition_here : Stands s (transitions_at (layout_of N P) + 4 * N.places * t) (taken_here ++ given_here)
    unfolding weight_bytes transition_bytes
    transition_here =
        each_stands s (transitions_at (layout_of N P)) (4 * N.places) (transition_bytes N) N.transitions (λ t l. transition_length N t) transitions_here t below

    reads_takes : (p : ℕ) → p < N.places → takes_at s t p ≡ N.takes t p
    unfolding takes_at
    reads_takes p h =
        ap (λ (n : ℕ). number 2 s (n + 2 * p)) transition_at
        ∙ numbers_read s 2 _ N.places (N.takes t) (λ q m. fits.takes t q below m) (stands_left s (transitions_at (layout_of N P) + 4 * N.places * t) taken_here given_here transition_here) p h

    reads_gives : (p : ℕ) → p < N.places → gives_at s t p ≡ N.gives t p
    unfolding gives_at
    reads_gives p h =
        let begin = transitions_at (layout_of N P) + 4 * N.places * t in
        let there : item s 1 t + 2 * (count s 0 + p) ≡ begin + 2 * N.places + 2 * p = omega (arith, transition_at, laid_out.places) in
        ap (number 2 s) there
        ∙ numbers_read
        s
        2
        (begin + 2 * N.places)
        N.places
        (N.gives t)
        (λ q m. fits.gives t q below m)
        (moved s given_here _ _ (ap (λ (n : ℕ). begin + n) (takes_length N t)) (stands_right s begin taken_here given_here transition_here))
        p
        h

  -- the net,
  reads_net : SameNet (net_of s) N
  reads_net =
      let is = laid_out in
      record {
        places = sym is.places;
        transitions = sym is.transitions;
        opening = λ p h. reads_opening p (omega (arith, is.places));
        takes = λ t p h m. reads_takes t (omega (arith, is.transitions)) p (omega (arith, is.places));
        gives = λ t p h m. reads_gives t (omega (arith, is.transitions)) p (omega (arith, is.places));
      }

  events_here : Stands s (events_at (layout_of N P)) (label_bytes P)
  events_here =
      let there : table_length + length (opening_bytes N ++ weight_bytes N) ≡ events_at (layout_of N P) = omega (arith, nets_length N P) in
      moved s (label_bytes P) _ _ there (stands_right s table_length (opening_bytes N ++ weight_bytes N) (label_bytes P) body)

  reads_label : (v : ℕ) → v < P.events → label_at s v ≡ P.label v
  unfolding label_at label_bytes item_length
  reads_label v h =
      ap (number 2 s) (item_at 2 v 2 (events_at (layout_of N P)) (sym laid_out.events_at_lem) refl)
      ∙ numbers_read s 2 (events_at (layout_of N P)) P.events P.label fits.label events_here v h

  -- the events,
  reads_events : SameEvents (plan_of s) P
  reads_events = record { events = sym laid_out.events; labels = λ v h. reads_label v (omega (arith, laid_out.events)) }

  reads_pair : (i : ℕ) → i < P.pairs → (earlier_at s i ≡ P.earlier i) × (later_at s i ≡ P.later i)
  unfolding earlier_at later_at order_bytes pair_bytes item_length
  reads_pair i h =
      let begin = pairs_at (layout_of N P) in
      let there = item_at 3 i 4 begin (sym laid_out.pairs_at_lem) refl in
      let pairs = counted s (order_bytes P) _ _ (front_length N P) (stands_right s 0 (table (layout_of N P) ++ body_bytes N P) (order_bytes P) all) in
      let here = each_stands s begin 4 (λ i. pair_bytes (P.earlier i) (P.later i)) P.pairs (λ i l. pair_length (P.earlier i) (P.later i)) pairs i h in
      let both = two_read s 2 (begin + 4 * i) (P.earlier i) (P.later i) (fits.earlier i h) (fits.later i h) here in
      (ap (number 2 s) there ∙ both.0, ap (λ (n : ℕ). number 2 s (n + 2)) there ∙ both.1)

  -- and the pairs are those that were written.
  reads_pairs : SamePairs (plan_of s) P
  reads_pairs =
      let is = laid_out in
      record {
        pairs = sym is.pairs;
        earlier = λ i h. (reads_pair i (omega (arith, is.pairs))).0;
        later = λ i h. (reads_pair i (omega (arith, is.pairs))).1;
      }

-- Read after write.
pub read_back : (N : Net) (P : Plan) → Writable N P → SaysPlan (bytes_of N P) N P
read_back N P fits =
    record {
      no_layout_fault = none_first layout_faults (bytes_of N P) (layout_clear (bytes_of N P) (reads_laid N P fits (bytes_of N P) refl));
      net = reads_net N P fits (bytes_of N P) refl;
      events = reads_events N P fits (bytes_of N P) refl;
      pairs = reads_pairs N P fits (bytes_of N P) refl;
    }
