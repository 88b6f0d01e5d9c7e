-- `by_pieces` meets its contract: after each piece the state is that after the samples that stand in `out`. Assumes nothing.
use mathlib.Core.Path.{◌≡◌, refl, sym, ◌∙◌}
use Prim.Native.Nat.{◌+◌, ◌-◌, ◌≤◌}
use native.Mathlib.Omega.{arith}
use lib.ListN.{length}
use Rattle.number.specs.Lists.{row, put_row}
use Rattle.number.proofs.Lists.{length_row, length_put_row}
use Rattle.history.proofs.StepLaws.{Reached, reached_none, reached_end}
use Rattle.noise.specs.Draw.{tries}
use Rattle.excitation.specs.Excitation.{state, step_of}
use Rattle.excitation.proofs.PieceLaws.{few, piece_full, piece_dry}
use Rattle.excitation.proofs.window.by_pieces.Goals as goal
use Rattle.excitation.proofs.window.by_pieces.Goals.{After-piece-made}

pub loop-i-init : goal.loop-i-init
loop-i-init c = (omega arith, refl, refl, reached_none (step_of tries c.args.lpf.now) _ _)

pub piece-made-requires : goal.piece-made-requires
piece-made-requires c =
    let long : length (row c.loop-i.i c.min-end.result c.loop-i.out) ≡ c.min-end.result - c.loop-i.i = length_row c.loop-i.i c.min-end.result c.loop-i.out (omega arith) (omega arith) in
    (omega (arith, c.requires.0, c.loop-i.invariant.1), omega (arith, c.requires.1, c.loop-i.invariant.1), omega (arith, long))

-- the piece lies within `out`, and its samples within the piece
sized : (c : After-piece-made)
    → (c.loop-i.i ≤ c.min-end.result) × (c.min-end.result ≤ length c.loop-i.out) × (length (row c.loop-i.i c.min-end.result c.loop-i.out) ≡ c.min-end.result - c.loop-i.i) × (c.piece-made.result ≤ length (row c.loop-i.i c.min-end.result c.loop-i.out))
sized c =
    let up : c.loop-i.i ≤ c.min-end.result = omega arith in
    let room : c.min-end.result ≤ length c.loop-i.out = omega arith in
    (up, room, length_row c.loop-i.i c.min-end.result c.loop-i.out up room, few c.piece-made.ensures c.piece-made.auto.out)

-- a piece that is full
full : (c : After-piece-made) → c.piece-made.result ≡ c.min-end.result - c.loop-i.i
    → Reached (step_of tries c.args.lpf.now) (c.loop-i.i + c.piece-made.result) (state c.args.pulse.now c.args.random.now c.args.line.now) (state c.piece-made.new.pulse c.piece-made.new.random c.piece-made.new.line)
    (put_row c.loop-i.i c.min-end.result c.piece-made.new.out c.loop-i.out) c.args.out.now
full c e =
    let w = sized c in
    piece_full (step_of tries c.args.lpf.now) c.loop-i.i c.min-end.result c.piece-made.result _ _ _ c.loop-i.out _ c.piece-made.new.out c.loop-i.invariant.3 w.0 w.1 c.piece-made.ensures.state c.piece-made.ensures.count c.piece-made.ensures.stand w.3 (e ∙ sym w.2)

pub loop-i-preserved : goal.loop-i-preserved
loop-i-preserved c =
    let piece = (goal.at.loop-i-preserved c).After-piece-made in
    let w = sized piece in
    let long : length c.piece-made.new.out ≡ c.min-end.result - c.loop-i.i = c.piece-made.auto.out ∙ w.2 in
    let e : c.piece-made.result ≡ c.min-end.result - c.loop-i.i = omega (arith, c.if-made-end.false, w.2, w.3) in
    let back = length_put_row c.loop-i.i c.min-end.result c.loop-i.out w.0 w.1 c.piece-made.new.out long in
    let on : c.loop-i.i + c.piece-made.result ≡ c.loop-i.i + 256 = omega (arith, e) in (
      omega (arith, back),
      c.piece-made.auto.line ∙ c.loop-i.invariant.1,
      back ∙ c.loop-i.invariant.2,
      rw on at (full piece e),
    )

-- no piece at all
pub returns : goal.returns
returns c =
    let all : c.loop-i.i ≡ length c.args.out.now = omega arith in
    let f = reached_end (step_of tries c.args.lpf.now) c.loop-i.i (length c.args.out.now) _ _ c.loop-i.out c.args.out.now c.loop-i.invariant.3 all in
    record { state = f.0; count = sym all ∙ f.1; stand = rw all at f.2 }

-- the last piece, which is full
pub returns-else-made-end : goal.returns-else-made-end
returns-else-made-end c =
    let piece = (goal.at.returns-else-made-end c).After-piece-made in
    let w = sized piece in
    let e : c.piece-made.result ≡ c.min-end.result - c.loop-i.i = omega (arith, c.if-made-end.false, w.2, w.3) in
    let all : c.loop-i.i + c.piece-made.result ≡ length c.args.out.now = omega (arith, e) in
    let f = reached_end (step_of tries c.args.lpf.now) (c.loop-i.i + c.piece-made.result) (length c.args.out.now) _ _ _ c.args.out.now (full piece e) all in
    record { state = f.0; count = sym all ∙ f.1; stand = rw all at f.2 }

pub returns-then-made-end : goal.returns-then-made-end
returns-then-made-end c =
    let w = sized (goal.at.returns-then-made-end c).After-piece-made in
    let f =
    piece_dry (step_of tries c.args.lpf.now) c.loop-i.i c.min-end.result c.piece-made.result _ _ _ c.loop-i.out _ c.piece-made.new.out c.loop-i.invariant.3 w.0 w.1 c.piece-made.ensures.state c.piece-made.ensures.count c.piece-made.ensures.stand w.3
    (length c.args.out.now) (omega (arith, w.1, c.loop-i.invariant.2)) (omega (arith, c.if-made-end.true, w.2)) in
    record { state = f.0; count = f.1; stand = f.2 }
