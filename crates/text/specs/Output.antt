-- A row of bytes as a text is written into it: its bytes, where what is written so far ends, and which row it is, by the name of the reference.
use Rattle.std.specs.Prelude.{ℕ, ◌+◌, ◌≤◌, ◌<◌, List, [], ◌++◌, ◌≡◌, refl, length}
use Rattle.std.proofs.Common.{◌∙◌}
use Rattle.finite.specs.Each.{each}
use Rattle.text.specs.declared.Output.{Output}
use Rattle.text.specs.Put.{Put, put_none, put_then, put_says}
use Rattle.text.specs.Putting.{Putting, each_start, each_more, each_done}

-- A text is written where what was written before it ended, all else is as it was, and the row that is held is the one that was.
pub record Written (old : Output) (text : List ℕ) (new : Output) : Type 0 where
  pub put : Put old.row.now new.row.now old.at text new.at
  pub same : new.row.ghost_name ≡ old.row.ghost_name

-- nothing written
pub written_none : (out : Output) → out.at ≤ length out.row.now → Written out [] out
written_none out l = record { put = put_none out.row.now out.at l; same = refl }

infixl 20 ◌then◌
-- one text after another
pub ◌then◌ : {old mid new : Output} {text more : List ℕ} → Written old text mid → Written mid more new → Written old (text ++ more) new
◌then◌ first second = record { put = put_then first.put second.put; same = second.same ∙ first.same }

-- a text that was written, by what it says
pub written_says : {old new : Output} {text : List ℕ} → Written old text new → (more : List ℕ) → text ≡ more → Written old more new
written_says written more e = record { put = put_says written.put more e; same = written.same }

-- What a loop knows that has written the first i of n texts, each of at most `most` bytes.
pub record Writing (old new : Output) (f : ℕ → List ℕ) (most n i : ℕ) : Type 0 where
  pub putting : Putting old.row.now new.row.now old.at f most n i new.at
  pub same : new.row.ghost_name ≡ old.row.ghost_name

module _ {old : Output} {f : ℕ → List ℕ} {most n : ℕ} where
  pub writing_start : old.at ≤ length old.row.now → Writing old old f most n 0
  writing_start l = record { putting = each_start l; same = refl }

  pub writing_more : {mid new : Output} {i : ℕ} → Writing old mid f most n i → i < n → Written mid (f i) new → new.at ≤ mid.at + most
      → Writing old new f most n (i + 1)
  writing_more so_far more here fits = record { putting = each_more so_far.putting more here.put fits; same = here.same ∙ so_far.same }

  pub writing_done : {new : Output} {i : ℕ} → Writing old new f most n i → n ≤ i → Written old (each n f) new
  writing_done h l = record { put = each_done h.putting l; same = h.same }
