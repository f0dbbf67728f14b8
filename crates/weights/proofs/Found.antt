-- What is known of the weights once a place or a transition more is looked at, and once all are, and what is left to tell where none is above the limit.
use Prim.Native.Nat.{ℕ, ◌+◌, ◌≤◌}
use native.Mathlib.Numerals.{add-one}
use native.Mathlib.Omega.{arith}
use mathlib.Core.Bool.{Bool, false, ◌||◌, or_assoc}
use mathlib.Core.List.{List}
use mathlib.Core.Option.{Option, none}
use mathlib.Core.Path.{◌≡◌, refl, ap, ◌∙◌}
use lib.Dec.{ltb}
use Rattle.finite.specs.Bounded.{any}
use Rattle.finite.proofs.First.{first_done}
use Rattle.sheet.specs.Chain.{told}
use Rattle.sheet.specs.Faults.{over_opening, over_weight_at, over_weight_in, over_weight, no_transition, number_faults, first_fault}
use Rattle.sheet.specs.Items.{takes_at, gives_at}
use Rattle.sheet.specs.Table.{transitions_of}
use Rattle.sheet.specs.Told.{no_fault, tell, or_else, else_last, else_next}

-- one place more
pub place_more : (s : List ℕ) (t p x y : ℕ) (h : Bool) → h ≡ any p (over_weight_at s t) → x ≡ takes_at s t p → y ≡ gives_at s t p
    → (h || ltb 1000 x) || ltb 1000 y ≡ any (p + 1) (over_weight_at s t)
unfolding any over_weight_at
place_more s t p x y h so_far takes gives =
    rw (so_far, takes, gives, add-one) (or_assoc (any p (over_weight_at s t)) (ltb 1000 (takes_at s t p)) (ltb 1000 (gives_at s t p)))

-- one transition more
pub transition_more : (s : List ℕ) (t : ℕ) (h x : Bool) → h ≡ any t (over_weight_in s) → x ≡ over_weight_in s t → h || x ≡ any (t + 1) (over_weight_in s)
unfolding any
transition_more s t h x so_far read = rw (so_far, read, add-one) refl

-- all of them; their number is handed in as n and stands in the definition as m
pub all_seen : (n m : ℕ) (f : ℕ → Bool) (i : ℕ) {h : Bool} → n ≡ m → i ≤ n → n ≤ i → h ≡ any i f → h ≡ any m f
all_seen n m f i e l k so_far = let same : m ≡ i = omega arith in rw same so_far

-- none of them has: what is told is 5, else 7
pub none_heavy : (s : List ℕ) {x : Bool} → x ≡ any (transitions_of s) (over_weight_in s) → x ≡ false
    → first_fault number_faults s ≡ or_else (tell 5 (over_opening s)) (tell 7 (no_transition s))
unfolding number_faults first_fault over_weight
none_heavy s read light =
    let absent : over_weight s ≡ none = first_done (over_weight_in s) _ _ (transitions_of s) refl (omega arith) (told read light) in
    let next : or_else (tell 6 (over_weight s)) (or_else (tell 7 (no_transition s)) no_fault) ≡ tell 7 (no_transition s) =
    ap (λ (o : Option ℕ). or_else (tell 6 o) (or_else (tell 7 (no_transition s)) no_fault)) absent
    ∙ else_next no_fault _ refl
    ∙ else_last 7 (no_transition s) (omega arith)
    in
    ap (or_else (tell 5 (over_opening s))) next
