-- `onward_in` meets its contract: what is done, with what the definition makes of the rest, is what it makes of all. Assumes nothing.
use Rattle.std.proofs.Common.{◌≡◌, ◌-◌, ◌++◌, List, refl, sym, ◌∙◌, ap, length, take, drop, arith, length-drop, append-nil}
use lib.Ieee.{Float, nan}
use lib.Seq.{take_all}
use Rattle.number.specs.F64.{◌⊕◌, ◌⊖◌, ◌⊗◌, ◌‼◌}
use Rattle.number.proofs.Lists.{front_turn, front_end, left_none}
use Rattle.cepstrum.specs.Cepstrum.{onward}
use Rattle.cepstrum.proofs.cepstrum.onward_in.Goals as goal

pub loop-x-preserved : goal.loop-x-preserved
unfolding onward
loop-x-preserved c =
    let l = c.loop-x.x-items in
    let v = c.loop-x.old ⊕ c.args.alpha ⊗ (l ‼ c.loop-x.x-index ⊖ c.loop-x.new) in
    front_turn (onward c.args.alpha c.loop-x.old c.loop-x.new) (onward c.args.alpha (l ‼ c.loop-x.x-index) v) l c.loop-x.x-index v nan (omega arith) refl ∙ c.loop-x.invariant

-- the part from the third entry on is back in its place
part_back : (l r : List Float) → take 2 l ++ (r ++ drop (length l - 2) (drop 2 l)) ≡ take 2 l ++ r
part_back l r = rw (left_none (drop 2 l) (length l - 2) (simp length-drop (omega arith)), append-nil r) refl

pub returns : goal.returns
unfolding onward
returns c =
    let l : List Float = c.args.g.now in
    let all : take (length l - 2) (drop 2 l) ≡ drop 2 l = take_all (length l - 2) (drop 2 l) (simp length-drop (omega arith)) in
    let made : c.loop-x.x-items ≡ onward c.args.alpha c.args.old c.args.new (take (length l - 2) (drop 2 l)) = sym (front_end c.loop-x.x-items _ c.loop-x.x-index (omega arith) (rw (left_none c.loop-x.x-items c.loop-x.x-index (omega arith)) refl)) ∙ c.loop-x.invariant in
    part_back l c.loop-x.x-items ∙ ap (λ (r : List Float). take 2 l ++ r) (made ∙ ap (onward c.args.alpha c.args.old c.args.new) all)
