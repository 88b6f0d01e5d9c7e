-- Which values of slots are a voice's. Assumes nothing.
use Rattle.std.specs.Prelude.{Bool, not, ◌&&◌, List, ℕ, ◌+◌, ◌-◌, eqb, leb, length, take, drop}
use Rattle.number.specs.Bits.{other_nan}
use Rattle.refusing.specs.Refusal.{every}
use Rattle.configuration.specs.declared.Configuration.{Configuration}
use Rattle.voice.specs.Voice.{acceptable}
use Rattle.slots.specs.Slots.{slot_at, configuration_in, first_in, noise_at, queue_at, count_of}

-- a NaN has the one form that is written
unfoldable pub one_form : ℕ → Bool
one_form b = not (other_nan b)

-- the slots from one on, up to another
abbrev pub between : (from to : ℕ) → List ℕ → List ℕ
between from to ws = take (to - from) (drop from ws)

-- THE NAN FORM of the floats: alpha, beta, volume; no-data, low, high; the pulse train and the taps; all after the noise's `next` and used
abbrev pub forms_kept : (nlpf : ℕ) → List ℕ → Bool
forms_kept nlpf ws =
    every one_form (between 5 8 ws)
    && every one_form (between 9 12 ws)
    && every one_form (between 15 (noise_at nlpf) ws)
    && every one_form (drop (queue_at nlpf) ws)

-- log gain and first flag 0 or 1
abbrev pub flags_kept : List ℕ → Bool
flags_kept ws = leb (slot_at ws 3) 1 && leb (slot_at ws 14) 1

-- the rules that an idle voice breaks, and limits kept among them
abbrev pub rules_kept : Configuration → List ℕ → Bool
rules_kept c ws = acceptable c (slot_at ws 12) (slot_at ws 13) (first_in ws) (slot_at ws (noise_at c.nlpf + 1))

-- THIS COUNT, NaN form, flags and rules
unfoldable pub sound : List ℕ → Bool
sound ws =
    let c = configuration_in ws in
    eqb (length ws) (count_of c) && (rules_kept c ws && flags_kept ws && forms_kept c.nlpf ws)
