-- `fits`: by its tests. Assumes nothing.
use native.Mathlib.Omega.{arith}
use Rattle.riff.proofs.WritingLaws.{rate_refused, too_long, all_fits, large_product, bytes_least}
use Rattle.riff.proofs.writing.fits.Goals as goal

pub returns-then-rate : goal.returns-then-rate
returns-then-rate c = rate_refused c.args.width c.args.rate c.args.n c.if-rate.true

pub returns-then-n-ge4294967296 : goal.returns-then-n-ge4294967296
returns-then-n-ge4294967296 c =
    too_long c.args.width c.args.rate c.args.n c.if-rate.false (large_product _ c.args.n (bytes_least c.args.width) (omega (arith, c.if-n-ge4294967296.true)))

pub returns-then-sound-ge4294967296 : goal.returns-then-sound-ge4294967296
returns-then-sound-ge4294967296 c =
    too_long c.args.width c.args.rate c.args.n c.if-rate.false (rw (← c.bytes_in.ensures.0) (omega (arith, c.if-sound-ge4294967296.true)))

pub returns : goal.returns
returns c =
    all_fits c.args.width c.args.rate c.args.n c.if-rate.false (rw (← c.bytes_in.ensures.0) (omega (arith, c.if-sound-ge4294967296.false)))
