-- The listing of any bytes is that of their first 21,281. Document 01, "Calls".
use Rattle.std.specs.Prelude.{ℕ, zero, suc, ◌≤◌, List, ◌≡◌, refl, length}
use Rattle.std.proofs.Common.{ap, ◌∙◌}
use Rattle.plan.specs.Net.{Net, Plan}
use Rattle.sheet.specs.Faults.{fault_of}
use Rattle.sheet.specs.Told.{Told}
use Rattle.sheet.specs.Items.{net_of, plan_of}
use Rattle.sheet.specs.Enough.{enough_bytes, enough}
use Rattle.sheet.proofs.Enough.{long_faulty, by_length, fault_enough}
use Rattle.lines.specs.Listing.{text_of, listing_of}

-- a faulty sheet's text tells its fault alone
fault_alone : (k : ℕ) (N M : Net) (P Q : Plan) → ¬ (k ≡ 0) → text_of k N P ≡ text_of k M Q
unfolding text_of
fault_alone zero N M P Q some = absurd (some refl)
fault_alone (suc k) N M P Q some = refl

listing_long : (s : List ℕ) → enough_bytes ≤ length s → listing_of (enough s) ≡ listing_of s
unfolding listing_of
listing_long s long =
    ap (λ (f : Told). text_of f.number (net_of (enough s)) (plan_of (enough s))) (fault_enough s)
    ∙ fault_alone (fault_of s).number (net_of (enough s)) (net_of s) (plan_of (enough s)) (plan_of s) (long_faulty s long)

pub listing_enough : (s : List ℕ) → listing_of (enough s) ≡ listing_of s
listing_enough s = by_length (λ (t : List ℕ). listing_of t ≡ listing_of s) s (listing_long s) (λ _. refl)
