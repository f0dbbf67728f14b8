-- Every "before" ends in a skeleton pair, so skeleton pairs alone tell what a done set is.
use Prim.Native.Nat.{ℕ, zero, suc, ◌<◌}
use Rattle.std.proofs.Common.{not-suc-le-zero, lt-suc_self, arith, inr, sym, subst₂, ◌∙◌}
use Rattle.std.specs.Prelude.{◌&&◌, ◌⊎◌, ◌≡◌}
use Rattle.std.proofs.Math.Logic.{inl, ⊎_elim}
use Rattle.std.proofs.Math.Path.{refl, subst}
use Rattle.std.proofs.Math.Dec.{T}
use Rattle.std.proofs.Math.Facts.{and_yes, yes_and}
use Rattle.finite.specs.Bounded.{any, any_yes, decide}
use Rattle.finite.specs.Sum.{on, sum, sum_strict, on_mono, on_yes, on_no}
use Rattle.plan.specs.Net.{Plan}
use Rattle.plan.specs.Order.{Before, pair, chain, before, Sound, skeleton}
use Rattle.plan.proofs.Closure.{before_test}

module _ (P : Plan) where
  -- from u to w, and on to x if that is another event
  onward : {u w x : ℕ} → Before P u w → (x ≡ w) ⊎ Before P w x → Before P u x
  onward {u} {w} {x} b h = ⊎_elim (λ e. subst (λ (y : ℕ). Before P u y) (sym e) b) (λ c. chain b c) h

  -- the last pair of a chain from u to v
  pub record Last (u v : ℕ) : Type 0 where
    pub index : ℕ
    pub named : index < P.pairs
    pub ends : P.later index ≡ v
    pub starts : (P.earlier index ≡ u) ⊎ Before P u (P.earlier index)

  pub last_pair : {u v : ℕ} → Before P u v → Last u v
  last_pair (pair i l) = record { index = i; named = l; ends = refl; starts = inl refl }
  last_pair (chain {u} {v} {w} b c) =
      let k = last_pair c in
      record { index = k.index; named = k.named; ends = k.ends; starts = inr (onward b k.starts) }

  module _ (S : Sound P) where
    pub before_later : {u v : ℕ} → Before P u v → v < P.events
    before_later (pair i l) = S.later_named i l
    before_later (chain b c) = before_later c

    pub before_earlier : {u v : ℕ} → Before P u v → u < P.events
    before_earlier (pair i l) = S.earlier_named i l
    before_earlier (chain b c) = before_earlier b

    -- how many events lie between w and v
    pub between : ℕ → ℕ → ℕ
    between w v = sum P.events (λ z. on (before P w z && before P z v) 1)

    -- fewer, where all that lies between w' and v' lies between w and v, and y only there
    fewer : (w v w' v' y : ℕ) → ((z : ℕ) → Before P w' z → Before P z v' → Before P w z × Before P z v) → Before P w y → Before P y v
        → (Before P w' y → Before P y v' → ⊥) → between w' v' < between w v
    unfolding between
    fewer w v w' v' y sub b c none =
        sum_strict
        P.events
        (λ z. on (before P w' z && before P z v') 1)
        (λ z. on (before P w z && before P z v) 1)
        (λ z l. on_mono (before P w' z && before P z v') (before P w z && before P z v) 1 (λ t. let h = both w' z v' t in let k = sub z h.0 h.1 in yes_both w z v k.0 k.1))
        y
        (before_earlier c)
        (omega (arith, on_no (before P w' y && before P y v') 1 (λ t. let h = both w' y v' t in none h.0 h.1), on_yes (before P w y && before P y v) 1 (yes_both w y v b c)))
      where
        both : (a z d : ℕ) → T (before P a z && before P z d) → Before P a z × Before P z d
        both a z d t = let h = and_yes (before P a z) (before P z d) t in ((before_test P a z).0 h.0, (before_test P z d).0 h.1)

        yes_both : (a z d : ℕ) → Before P a z → Before P z d → T (before P a z && before P z d)
        yes_both a z d b c = yes_and (before P a z) (before P z d) ((before_test P a z).1 b) ((before_test P z d).1 c)

    pub later_start : (w y v : ℕ) → Before P w y → Before P y v → between y v < between w v
    later_start w y v b c = fewer w v y v y (λ z h k. (chain b h, k)) b c (λ h k. S.acyclic y h)

    pub earlier_end : (w y v : ℕ) → Before P w y → Before P y v → between w y < between w v
    earlier_end w y v b c = fewer w v w y y (λ z h k. (h, chain k c)) b c (λ h k. S.acyclic y k)

    -- a skeleton pair that ends where the pair i does and starts no earlier
    pub record Link (from v : ℕ) : Type 0 where
      pub link : Last from v
      pub bare : T (skeleton P link.index)

    -- from a later start, the same link
    earlier_start : (u w v x : ℕ) → Before P u w → x ≡ v → Link w x → Link u v
    earlier_start u w v x b e k =
        record { link = record { index = k.link.index; named = k.link.named; ends = k.link.ends ∙ e; starts = inr (onward b k.link.starts) }; bare = k.bare }

    -- an event between the ends of the pair i leads to a pair with fewer events between its ends
    descend : (k i : ℕ) → i < P.pairs → between (P.earlier i) (P.later i) < k → Link (P.earlier i) (P.later i)
    unfolding skeleton
    descend zero i l h = absurd (not-suc-le-zero h)
    descend (suc k) i l h =
        ⊎_elim
        (λ t.
        let z = any_yes P.events _ t in
        let r = and_yes (before P (P.earlier i) z.0) (before P z.0 (P.later i)) z.2 in
        let j = last_pair ((before_test P z.0 (P.later i)).0 r.1) in
        let b : Before P (P.earlier i) (P.earlier j.index) = onward ((before_test P (P.earlier i) z.0).0 r.0) j.starts in
        let c = later_start (P.earlier i) (P.earlier j.index) (P.later j.index) b (pair j.index j.named) in
        earlier_start
        (P.earlier i)
        (P.earlier j.index)
        (P.later i)
        (P.later j.index)
        b
        j.ends
        (descend k j.index j.named (omega (arith, subst (λ (x : ℕ). between (P.earlier j.index) (P.later j.index) < between (P.earlier i) x) j.ends c))))
        (λ t. record { link = record { index = i; named = l; ends = refl; starts = inl refl }; bare = t })
        (decide (any P.events (λ w. before P (P.earlier i) w && before P w (P.later i))))

    -- Whatever is before v is, or is before, the start of a skeleton pair that ends at v.
    pub last_link : {u v : ℕ} → Before P u v → Link u v
    last_link {u} {v} b =
        let j = last_pair b in
        let k = descend (suc (between (P.earlier j.index) (P.later j.index))) j.index j.named (lt-suc_self _) in
        ⊎_elim
        (λ e. subst₂ Link e j.ends k)
        (λ c. earlier_start u (P.earlier j.index) v (P.later j.index) c j.ends k)
        j.starts
