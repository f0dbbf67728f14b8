use Rattle.std.proofs.Common.{◌<◌, ◌≡◌, ◌∙◌, arith, ap₂, length, length-append, refl, bit_and}
use Rattle.std.proofs.lemmas.Slice.Zip.{zip_turn, zip_end}
use Rattle.marks.proofs.Meeting.{start, more, done}
use Rattle.marks.proofs.Rows.{row_part, part_long, part_word}
use Rattle.marks.proofs.meets.Goals as goal

pub loop-x-init : goal.loop-x-init
loop-x-init c = start _ _ _ _ _ _ refl refl

pub loop-x-preserved : goal.loop-x-preserved
loop-x-preserved c =
    let a = c.args.a.now in
    let i = c.args.i in
    let b = c.args.b.now in
    let j = c.args.j in
    let k = length c.loop-x.yielded in
    let turn = zip_turn (row_part a i) (row_part b j) c.loop-x.yielded c.into_iter-x-iterator.result c.loop-x.x-iterator c.next.new.self _ (cc) (cc) c.loop-x.yielded_by _ c.in-Some.is c.next.ensures.steps in
    let below : k < 8 = omega (arith, turn.0, part_long a i c.requires.has_row) in
    rw length-append
    (more a i b j _ k _ (λ q. omega (arith, c.type_inv.a q)) (λ q. omega (arith, c.type_inv.b q))
    (ap₂ bit_and (turn.2 0 ∙ part_word a i k below) (turn.3 0 ∙ part_word b j k below)) c.loop-x.invariant)

pub returns : goal.returns
returns c =
    let end = zip_end (row_part c.args.a.now c.args.i) (row_part c.args.b.now c.args.j) c.loop-x.yielded c.into_iter-x-iterator.result c.loop-x.x-iterator c.next.new.self _ (cc) (cc) c.loop-x.yielded_by c.in-None.is c.next.ensures.steps in
    let all : length c.loop-x.yielded ≡ 8 = omega (arith, end, part_long c.args.a.now c.args.i c.requires.has_row, part_long c.args.b.now c.args.j c.requires.has_row_2) in
    done _ _ _ _ _ _ all c.loop-x.invariant
