-- How many bytes each part of a sheet has.
use Rattle.std.specs.Prelude.{ℕ, ◌*◌, ◌++◌, ◌≡◌, length}
use native.Mathlib.Omega.{arith}
use Rattle.std.proofs.Math.ListN.{length-append}
use Rattle.finite.specs.Each.{each, each_length}
use Rattle.layout.specs.declared.Layout.{Layout}
use Rattle.layout.specs.Layout.{places_at, transitions_at, events_at, pairs_at}
use Rattle.numbers.specs.Number.{bytes, bytes_length}
use Rattle.plan.specs.Net.{Net, Plan}
use Rattle.sheet.specs.Table.{table_length}
use Rattle.writer.specs.Written.{entry, table, opening_bytes, label_bytes, pair_bytes, order_bytes}

pub entry_length : (start count : ℕ) → length (entry start count) ≡ 8
unfolding entry
entry_length start count = omega (arith, length-append (bytes 4 start) (bytes 4 count), bytes_length 4 start, bytes_length 4 count)

module _ (l : Layout) where
  pub two_entries : length (entry (places_at l) l.places ++ entry (transitions_at l) l.transitions) ≡ 16
  two_entries = simp length-append (omega (arith, entry_length (places_at l) l.places, entry_length (transitions_at l) l.transitions))

  pub three_entries : length (entry (places_at l) l.places ++ entry (transitions_at l) l.transitions ++ entry (events_at l) l.events) ≡ 24
  three_entries =
      omega (
        arith,
        length-append (entry (places_at l) l.places ++ entry (transitions_at l) l.transitions) (entry (events_at l) l.events),
        two_entries,
        entry_length (events_at l) l.events,
      )

  pub table_length_lem : length (table l) ≡ table_length
  unfolding table
  table_length_lem =
      omega (
        arith,
        length-append (entry (places_at l) l.places ++ entry (transitions_at l) l.transitions ++ entry (events_at l) l.events) (entry (pairs_at l) l.pairs),
        three_entries,
        entry_length (pairs_at l) l.pairs,
      )

-- items of the same length, one number each
pub numbers_length : (k n : ℕ) (f : ℕ → ℕ) → length (each n (λ i. bytes k (f i))) ≡ k * n
numbers_length k n f = each_length k n (λ i. bytes k (f i)) (λ i l. bytes_length k (f i))

pub pair_length : (a b : ℕ) → length (pair_bytes a b) ≡ 4
unfolding pair_bytes
pair_length a b = omega (arith, length-append (bytes 2 a) (bytes 2 b), bytes_length 2 a, bytes_length 2 b)

module _ (N : Net) where
  pub openings_length : length (opening_bytes N) ≡ 4 * N.places
  unfolding opening_bytes
  openings_length = numbers_length 4 N.places N.opening

  pub takes_length : (t : ℕ) → length (each N.places (λ p. bytes 2 (N.takes t p))) ≡ 2 * N.places
  takes_length t = numbers_length 2 N.places (N.takes t)

module _ (P : Plan) where
  pub labels_length : length (label_bytes P) ≡ 2 * P.events
  unfolding label_bytes
  labels_length = numbers_length 2 P.events P.label

  pub order_length : length (order_bytes P) ≡ 4 * P.pairs
  unfolding order_bytes
  order_length = each_length 4 P.pairs (λ i. pair_bytes (P.earlier i) (P.later i)) (λ i l. pair_length (P.earlier i) (P.later i))
