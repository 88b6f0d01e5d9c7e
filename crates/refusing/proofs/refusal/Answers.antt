-- `refusal` meets its contract: each test in the order of the table. Assumes nothing.
use mathlib.Core.Path.{◌≡◌, refl, sym, ◌∙◌}
use mathlib.Core.Bool.{true}
use Prim.Native.Nat.{◌+◌, ◌≤◌, ◌<◌}
use native.Mathlib.Omega.{arith}
use lib.Dec.{eqb}
use lib.ListN.{length}
use borrow.Author.Tests.{eq-eqb, ne_eqb, lt-ltb, le-ltb}
use Rattle.configuration.proofs.LimitsLaws.{sizes}
use Rattle.voice.specs.Voice.{acceptable, idle, most_meter}
use Rattle.voice.proofs.IdleLaws.{kept_of}
use Rattle.refusing.specs.Refusal.{earlier}
use Rattle.refusing.proofs.refusal.Goals as goal
use Rattle.refusing.proofs.refusal.Goals.{Else-frame-configuration-2, Else-not-is_usable, Else-frame-configuration, Else-voice-ne0}

-- what each test that was passed says
usable_here : (c : Else-not-is_usable) → acceptable c.args.voice.now.configuration c.args.voice.now.meter c.args.voice.now.left c.args.voice.now.first c.args.voice.now.random.used ≡ true
usable_here c = sym c.is_usable.ensures ∙ c.if-not-is_usable.false

none_left : (c : Else-voice-ne0) → eqb c.args.voice.now.left 0 ≡ true
none_left c = let same : c.args.voice.now.left ≡ 0 = omega (arith, c.if-voice-ne0.false) in eq-eqb _ _ same

entries : (c : Else-frame-configuration) → eqb (length c.args.frame.spectrum.now) c.args.voice.now.configuration.nmcp ≡ true
entries c = let same : length c.args.frame.spectrum.now ≡ c.args.voice.now.configuration.nmcp = omega (arith, c.if-frame-configuration.false) in eq-eqb _ _ same

taps : (c : Else-frame-configuration-2) → eqb (length c.args.frame.lpf.now) c.args.voice.now.configuration.nlpf ≡ true
taps c = let same : length c.args.frame.lpf.now ≡ c.args.voice.now.configuration.nlpf = omega (arith, c.if-frame-configuration-2.false) in eq-eqb _ _ same

pub returns-then-not-is_usable : goal.returns-then-not-is_usable
unfolding earlier idle
returns-then-not-is_usable c = rw (sym c.is_usable.ensures ∙ c.if-not-is_usable.true) refl

pub returns-then-voice-ne0 : goal.returns-then-voice-ne0
unfolding earlier idle
returns-then-voice-ne0 c = rw (usable_here (goal.at.returns-then-voice-ne0 c).Else-not-is_usable, ne_eqb _ _ (λ (e : c.args.voice.now.left ≡ 0). absurd (omega (arith, e, c.if-voice-ne0.true)))) refl

pub returns-then-frame-configuration : goal.returns-then-frame-configuration
unfolding earlier idle
returns-then-frame-configuration c = rw (usable_here (goal.at.returns-then-frame-configuration c).Else-not-is_usable, none_left (goal.at.returns-then-frame-configuration c).Else-voice-ne0, ne_eqb _ _ (λ (e : length c.args.frame.spectrum.now ≡ c.args.voice.now.configuration.nmcp). absurd (omega (arith, e, c.if-frame-configuration.true)))) refl

pub returns-then-frame-configuration-2 : goal.returns-then-frame-configuration-2
unfolding earlier idle
returns-then-frame-configuration-2 c = rw (usable_here (goal.at.returns-then-frame-configuration-2 c).Else-not-is_usable, none_left (goal.at.returns-then-frame-configuration-2 c).Else-voice-ne0, entries (goal.at.returns-then-frame-configuration-2 c).Else-frame-configuration, ne_eqb _ _ (λ (e : length c.args.frame.lpf.now ≡ c.args.voice.now.configuration.nlpf). absurd (omega (arith, e, c.if-frame-configuration-2.true)))) refl

pub returns-then-not-is_finite-all_finite : goal.returns-then-not-is_finite-all_finite
unfolding earlier idle
returns-then-not-is_finite-all_finite c = rw (usable_here (goal.at.returns-then-not-is_finite-all_finite c).Else-not-is_usable, none_left (goal.at.returns-then-not-is_finite-all_finite c).Else-voice-ne0, entries (goal.at.returns-then-not-is_finite-all_finite c).Else-frame-configuration, taps (goal.at.returns-then-not-is_finite-all_finite c).Else-frame-configuration-2, ← c.is_finite.ensures, ← c.all_finite.ensures, ← c.all_finite-2.ensures, c.if-not-is_finite-all_finite.true) refl

pub returns-then-configuration-all_within : goal.returns-then-configuration-all_within
unfolding earlier idle
returns-then-configuration-all_within c = rw (usable_here (goal.at.returns-then-configuration-all_within c).Else-not-is_usable, none_left (goal.at.returns-then-configuration-all_within c).Else-voice-ne0, entries (goal.at.returns-then-configuration-all_within c).Else-frame-configuration, taps (goal.at.returns-then-configuration-all_within c).Else-frame-configuration-2, ← c.is_finite.ensures, ← c.all_finite.ensures, ← c.all_finite-2.ensures, c.if-not-is_finite-all_finite.false, ← c.all_within.ensures, c.if-configuration-all_within.true) refl

pub overflow_sub-configuration : goal.overflow_sub-configuration
overflow_sub-configuration c = let f = (sizes c.args.voice.now.configuration (kept_of _ _ _ _ _ (usable_here (goal.at.overflow_sub-configuration c).Else-not-is_usable))).fperiod_most in omega (arith, f)

pub returns-then-voice-configuration : goal.returns-then-voice-configuration
unfolding earlier idle
returns-then-voice-configuration c =
    let f = (sizes c.args.voice.now.configuration (kept_of _ _ _ _ _ (usable_here (goal.at.returns-then-voice-configuration c).Else-not-is_usable))).fperiod_most in
    let above : most_meter < c.args.voice.now.meter + c.args.voice.now.configuration.fperiod = omega (arith, f, c.if-voice-configuration.true) in
    rw (usable_here (goal.at.returns-then-voice-configuration c).Else-not-is_usable, none_left (goal.at.returns-then-voice-configuration c).Else-voice-ne0, entries (goal.at.returns-then-voice-configuration c).Else-frame-configuration, taps (goal.at.returns-then-voice-configuration c).Else-frame-configuration-2, ← c.is_finite.ensures, ← c.all_finite.ensures, ← c.all_finite-2.ensures, c.if-not-is_finite-all_finite.false, ← c.all_within.ensures, c.if-configuration-all_within.false, lt-ltb _ _ above) refl

pub returns : goal.returns
unfolding earlier idle
returns c =
    let f = (sizes c.args.voice.now.configuration (kept_of _ _ _ _ _ (usable_here (goal.at.returns c).Else-not-is_usable))).fperiod_most in
    let within : c.args.voice.now.meter + c.args.voice.now.configuration.fperiod ≤ most_meter = omega (arith, f, c.if-voice-configuration.false) in
    rw (usable_here (goal.at.returns c).Else-not-is_usable, none_left (goal.at.returns c).Else-voice-ne0, entries (goal.at.returns c).Else-frame-configuration, taps (goal.at.returns c).Else-frame-configuration-2, ← c.is_finite.ensures, ← c.all_finite.ensures, ← c.all_finite-2.ensures, c.if-not-is_finite-all_finite.false, ← c.all_within.ensures, c.if-configuration-all_within.false, le-ltb _ _ within) refl
