-- `one_form` meets its contract: only another form of the NaN does not come back. Assumes nothing.
use Rattle.reading.proofs.ReadLaws.{form_test}
use Rattle.reading.proofs.check.one_form.Goals as goal

pub returns : goal.returns
returns c = rw (c.bits_of.ensures, c.float_of.ensures) (form_test c.args.bits c.ranges.bits.fits)
