-- Demand 3, whole: one statement about the counts and the spare counts that the place judgement and the plan judgement return, for every sheet
-- that is taken and every place of it, in terms of the missing count by which demand 2 gives the verdict.
use Rattle.std.specs.Prelude.{ℕ, ◌-◌, ◌≤◌, ◌<◌, List, ◌↔◌, ◌≡◌, T, ℤ, pos, neg_ℤ, ◌+ℤ◌, ◌-ℤ◌, ◌≤ℤ◌}
use Rattle.plan.specs.Net.{Plan}
use Rattle.plan.specs.Prefix.{above0, missing, spare, runs_at}
use Rattle.plan.specs.Flow.{Flow, otherwise_valid, overrun, shares}
use Rattle.plan.specs.Compare.{with_more, opens_with, MoreOrder, SameAt}
use Rattle.sheet.specs.Items.{net_of, plan_of, opening_at}
use Rattle.demands.specs.Returned.{Taken, Returned, SpareReturned}

-- The same events, labels and pairs.
pub record SamePlan (P Q : Plan) : Type 0 where
  pub events : P.events ≡ Q.events
  pub labels : (v : ℕ) → v < P.events → P.label v ≡ Q.label v
  pub pairs : P.pairs ≡ Q.pairs
  pub earlier : (i : ℕ) → i < P.pairs → P.earlier i ≡ Q.earlier i
  pub later : (i : ℕ) → i < P.pairs → P.later i ≡ Q.later i

-- What demand 3 says of a count m that was returned for the place p of the sheet s. The counts m' that it is compared with were returned
-- for another sheet s', by whichever of the calls.
pub record Least (s : List ℕ) (p m : ℕ) : Type 0 where
  -- "For every plan taken the missing count is the least: that many tokens more and it runs, fewer and it doesn't;
  pub enough : (k : ℕ) → m ≤ k → T (runs_at (with_more (net_of s) p k) (plan_of s) p)
  pub too_few : (k : ℕ) → k < m → ¬ T (runs_at (with_more (net_of s) p k) (plan_of s) p)
  -- some flow otherwise valid overruns by exactly as many, none by fewer." A flow is a row of whole numbers from 0 up, however large.
  pub overrun_reached : (x : Flow) × T (otherwise_valid (net_of s) (plan_of s) p x) × (overrun (net_of s) (plan_of s) p x ≡ m)
  pub not_undercut : (x : Flow) → T (otherwise_valid (net_of s) (plan_of s) p x) → m ≤ overrun (net_of s) (plan_of s) p x
  -- "k more tokens opening lower it by k, at most to 0;" all else at the place is the same, the pairs too.
  pub more_tokens : (s' : List ℕ) (k m' : ℕ) → Taken s' → Returned s' p m' → SameAt p (with_more (net_of s) p k) (net_of s') → SamePlan (plan_of s) (plan_of s') → m' ≡ m - k
  -- "more order never raises it;" the net is the same, and whatever is before an event still is, whichever pairs say so.
  pub more_order : (s' : List ℕ) (m' : ℕ) → Taken s' → Returned s' p m' → SameAt p (net_of s) (net_of s') → MoreOrder (plan_of s) (plan_of s') → m' ≤ m
  -- "other places' numbers don't matter."
  pub other_places : (s' : List ℕ) (m' : ℕ) → Taken s' → Returned s' p m' → SameAt p (net_of s) (net_of s') → SamePlan (plan_of s) (plan_of s') → m' ≡ m
  -- The same for tokens and orders beyond what a sheet can hold.
  pub any_tokens : (k : ℕ) → missing (with_more (net_of s) p k) (plan_of s) p ≡ m - k
  pub any_order : (Q : Plan) → MoreOrder (plan_of s) Q → missing (net_of s) Q p ≤ m

-- What demand 3 says of a spare count z that was returned for it. Document 02, A3.
pub record Spared (s : List ℕ) (p : ℕ) (z : ℤ) : Type 0 where
  -- "The opening count minus the least opening count with which the plan runs there": with k tokens opening it runs exactly if k is no less;
  pub runs_from : (k : ℕ) → T (runs_at (opens_with (net_of s) p k) (plan_of s) p) ↔ ((pos (opening_at s p) -ℤ z) ≤ℤ pos k)
  -- some flow otherwise valid has shares of exactly as many, none of fewer.
  pub shares_reached : (x : Flow) × T (otherwise_valid (net_of s) (plan_of s) p x) × (pos (shares (plan_of s) x) ≡ pos (opening_at s p) -ℤ z)
  pub not_undercut : (x : Flow) → T (otherwise_valid (net_of s) (plan_of s) p x) → (pos (opening_at s p) -ℤ z) ≤ℤ pos (shares (plan_of s) x)
  -- "It lies between −256,000 and 1,000,000.
  pub at_least : neg_ℤ (pos 256000) ≤ℤ z
  pub at_most : z ≤ℤ pos 1000000
  -- The missing count is its negative, or 0 where the spare count isn't below 0." By whichever of the calls that was returned.
  pub missing_is : (m : ℕ) → Returned s p m → m ≡ above0 (neg_ℤ z)
  -- "k more tokens opening raise the spare count by exactly k." There is no floor at 0.
  pub more_tokens : (s' : List ℕ) (k : ℕ) (z' : ℤ) → Taken s' → SpareReturned s' p z' → SameAt p (with_more (net_of s) p k) (net_of s') → SamePlan (plan_of s) (plan_of s') → z' ≡ z +ℤ pos k
  -- More order never lowers it,
  pub more_order : (s' : List ℕ) (z' : ℤ) → Taken s' → SpareReturned s' p z' → SameAt p (net_of s) (net_of s') → MoreOrder (plan_of s) (plan_of s') → z ≤ℤ z'
  -- and other places' numbers don't matter.
  pub other_places : (s' : List ℕ) (z' : ℤ) → Taken s' → SpareReturned s' p z' → SameAt p (net_of s) (net_of s') → SamePlan (plan_of s) (plan_of s') → z' ≡ z
  -- The same for tokens and orders beyond what a sheet can hold.
  pub any_tokens : (k : ℕ) → spare (with_more (net_of s) p k) (plan_of s) p ≡ z +ℤ pos k
  pub any_order : (Q : Plan) → MoreOrder (plan_of s) Q → z ≤ℤ spare (net_of s) Q p

-- Demand 3: of each count and each spare count that was returned for a place of a sheet, by whichever of the calls.
pub record OfPlace (s : List ℕ) (p : ℕ) : Type 0 where
  pub counts : (m : ℕ) → Returned s p m → Least s p m
  pub spares : (z : ℤ) → SpareReturned s p z → Spared s p z

abbrev pub Demand3 : Type 0
Demand3 = (s : List ℕ) → Taken s → (p : ℕ) → OfPlace s p
