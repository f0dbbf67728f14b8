-- How many bytes the parts of a sheet have that a net and a plan make.
use Rattle.std.specs.Prelude.{ℕ, ◌+◌, ◌*◌, ◌++◌, ◌≡◌, length}
use native.Mathlib.Omega.{arith}
use Rattle.std.proofs.Math.ListN.{length-append}
use Rattle.finite.specs.Each.{each_length}
use Rattle.layout.specs.Layout.{pairs_at}
use Rattle.plan.specs.Net.{Net, Plan}
use Rattle.writer.specs.Written.{table, opening_bytes, transition_bytes, weight_bytes, order_bytes, body_bytes, bytes_of, layout_of}
use Rattle.writer.specs.Lengths.{table_length_lem, numbers_length, openings_length, takes_length, labels_length, order_length}

module _ (N : Net) where
  pub transition_length : (t : ℕ) → length (transition_bytes N t) ≡ 4 * N.places
  unfolding transition_bytes
  transition_length t =
      simp length-append (omega (arith, takes_length N t, numbers_length 2 N.places (N.gives t)))

  pub weights_length : length (weight_bytes N) ≡ 4 * N.places * N.transitions
  unfolding weight_bytes
  weights_length = each_length (4 * N.places) N.transitions (transition_bytes N) (λ t l. transition_length t)

module _ (N : Net) (P : Plan) where
  pub nets_length : length (opening_bytes N ++ weight_bytes N) ≡ 4 * N.places + 4 * N.places * N.transitions
  nets_length = omega (arith, length-append (opening_bytes N) (weight_bytes N), openings_length N, weights_length N)

  pub body_length : length (body_bytes N P) ≡ 4 * N.places + 4 * N.places * N.transitions + 2 * P.events
  unfolding body_bytes
  body_length = simp length-append (omega (arith, openings_length N, weights_length N, labels_length P))

  pub front_length : length (table (layout_of N P) ++ body_bytes N P) ≡ pairs_at (layout_of N P)
  front_length = omega (arith, length-append (table (layout_of N P)) (body_bytes N P), table_length_lem (layout_of N P), body_length)

  pub sheet_length : length (bytes_of N P) ≡ pairs_at (layout_of N P) + 4 * P.pairs
  unfolding bytes_of
  sheet_length = omega (arith, length-append (table (layout_of N P) ++ body_bytes N P) (order_bytes P), front_length, order_length P)
