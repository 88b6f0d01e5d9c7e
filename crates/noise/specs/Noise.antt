-- The noise: a filling of 32 pairs, and the values taken from it. Assumes nothing.
use Rattle.std.specs.Prelude.{List, [], ◌∷◌, ◌++◌, cond, ℕ, zero, suc, ◌+◌, ltb, replicate, Float, Option, None, Some}
use Rattle.number.specs.F64.{◌⊗◌, ◌⊘◌, −◌, ◌‼◌, 0f, 2f}
use Rattle.root.specs.Root.{root_of}
use Rattle.elementary.specs.Band.{number_of}
use Rattle.logarithm.specs.Ln.{ln_of}
use Rattle.history.specs.Steps.{Step, dry, one, Run, steps}
use Rattle.noise.specs.declared.draw.Try.{Try}
use Rattle.noise.specs.declared.Random.{Random}
use Rattle.noise.specs.Draw.{try_of, accepted}

-- the first accepted of so many tries, or dry
unfoldable pub found_of : ℕ → ℕ → Option Try
found_of zero next = None
found_of (suc bound) next = cond (accepted (try_of next)) (Some (try_of next)) (found_of bound (try_of next).next)

-- sqrt (-2 ln s / s)
unfoldable pub multiplier_of : Float → Float
multiplier_of s = root_of (− 2f ⊗ number_of (ln_of s) ⊘ s)

-- the two values of an accepted try
abbrev pub values_of : Try → List Float
values_of t = t.r1 ⊗ multiplier_of t.s ∷ t.r2 ⊗ multiplier_of t.s ∷ []

-- a pair: its two values, and `next` after its tries
abbrev pub pair_step : Option Try → Step ℕ (List Float)
pair_step None = dry
pair_step (Some t) = one (values_of t) t.next

unfoldable pub pair_of : ℕ → ℕ → Step ℕ (List Float)
pair_of bound next = pair_step (found_of bound next)

abbrev pub concat : List (List Float) → List Float
concat [] = []
concat (l ∷ ls) = l ++ concat ls

-- a filling makes 32 pairs, all of them before any value is used
abbrev pub filled : Run ℕ (List Float) → Step ℕ (List Float)
filled run = cond run.is_dry dry (one (concat run.made) run.state)

unfoldable pub filling_of : ℕ → ℕ → Step ℕ (List Float)
filling_of bound next = filled (steps (pair_of bound) 32 next)

-- the value that is taken next, where there is one
abbrev pub take_from : Random → Step Random Float
take_from z = one (z.queue ‼ z.used) (record { next = z.next; used = z.used + 1; queue = z.queue })

abbrev pub take_first : Step ℕ (List Float) → Step Random Float
take_first dry = dry
take_first (one queue next) = take_from (record { next = next; used = 0; queue = queue })

-- ONE VALUE of the noise: from a new filling where all 64 are taken. A dry filling leaves the noise as it was.
unfoldable pub noise_of : ℕ → Random → Step Random Float
noise_of bound z = cond (ltb z.used 64) (take_from z) (take_first (filling_of bound z.next))

-- what `fill_queue` and `nrandom` answer, beside the queue and the noise that they leave, as those steps
abbrev pub filled_of : Option ℕ → List Float → Step ℕ (List Float)
filled_of None queue = dry
filled_of (Some next) queue = one queue next

abbrev pub taken_of : Option Float → Random → Step Random Float
taken_of None after = dry
taken_of (Some x) after = one x after

-- the noise at rest
abbrev pub fresh_random : Random
fresh_random = record { next = 1; used = 64; queue = replicate 64 0f }
