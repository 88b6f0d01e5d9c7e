-- `onward_in` meets its contract: what is done, with what the definition makes of the rest, is what it makes of all. Assumes nothing.
use Rattle.std.proofs.Common.{◌≡◌, ◌++◌, take, drop}
use Rattle.cepstrum.specs.Cepstrum.{onward}
use Rattle.cepstrum.proofs.cepstrum.onward_in.Given as goal

abbrev pub invariant-loop-x : goal.invariant-loop-x
invariant-loop-x l = take l.x-index l.x-items ++ onward l.alpha l.old l.new (drop l.x-index l.x-items) ≡ onward l.alpha l.initial.old l.initial.new l.initial.x-items
