-- `accepted` meets its contract: refused by a row, outside, or inside as preparing is. Assumes nothing.
use borrow.Author.Rules.{rules}
use mathlib.Core.Path.{◌≡◌, refl, sym, ◌∙◌, subst}
use native.Mathlib.Omega.{arith}
use lib.ListN.{length}
use lib.Seq.{length-take-le}
use Prim.Native.Nat.{◌≤◌}
use Rattle.std.specs.Prelude.{Err}
use Rattle.std.proofs.lemmas.Result.{err_from_is_err_and}
use Rattle.elementary.proofs.OutcomeLaws.{is_outside}
use Rattle.configuration.proofs.LimitsLaws.{Sizes}
use Rattle.refusing.specs.Given.{frame_of}
use Rattle.refusing.specs.Refusal.{earlier}
use Rattle.refusing.proofs.EarlierLaws.{Fits, fits_of, sizes_of}
use Rattle.voice.specs.declared.answers.Refusal.{Refusal}
use Rattle.giving.specs.Give.{Accepts}
use Rattle.giving.proofs.GiveLaws.{asked, accepts_refused, accepts_outside, accepts_inside}
use Rattle.giving.proofs.accepted.Goals as goal
use Rattle.giving.proofs.accepted.Goals.{In_ok-refusal}

-- what holds of a frame that no row refuses
none : (c : In_ok-refusal) → earlier (frame_of c.args.frame) c.args.voice.now ≡ 0
none c = sym (c.in_ok-refusal.ensures)

fits : (c : In_ok-refusal) → Fits (frame_of c.args.frame) c.args.voice.now
fits c = fits_of (frame_of c.args.frame) c.args.voice.now (none c)

size : (c : In_ok-refusal) → Sizes c.args.voice.now.configuration
size c = sizes_of (frame_of c.args.frame) c.args.voice.now (fits c)

-- the arrays are long enough for what is lent of them
long_coefficients : (c : In_ok-refusal) → c.args.voice.now.configuration.nmcp ≤ length c.args.voice.now.coefficients
long_coefficients c = let long : length c.args.voice.now.coefficients ≡ 64 = search rules in omega (arith, long, (size c).nmcp_most)

long_targets : (c : In_ok-refusal) → c.args.voice.now.configuration.nmcp ≤ length c.args.voice.now.targets
long_targets c = let long : length c.args.voice.now.targets ≡ 64 = search rules in omega (arith, long, (size c).nmcp_most)

long_increments : (c : In_ok-refusal) → c.args.voice.now.configuration.nmcp ≤ length c.args.voice.now.increments
long_increments c = let long : length c.args.voice.now.increments ≡ 64 = search rules in omega (arith, long, (size c).nmcp_most)

long_lpf : (c : In_ok-refusal) → c.args.voice.now.configuration.nlpf ≤ length c.args.voice.now.lpf
long_lpf c = let long : length c.args.voice.now.lpf ≡ 64 = search rules in omega (arith, long, (size c).nlpf_most)

pub returns-in_err-refusal : goal.returns-in_err-refusal
returns-in_err-refusal c =
    let p = err_from_is_err_and c.from_residual.result c.from_residual.ensures.1 in
    rw (p.1, p.2) (accepts_refused (frame_of c.args.frame) c.args.voice.now _ (c.in_err-refusal.ensures))

pub slice_bounds-coefficients-end : goal.slice_bounds-coefficients-end
slice_bounds-coefficients-end c = long_coefficients (goal.at.slice_bounds-coefficients-end c).In_ok-refusal

pub slice_bounds-begin-end : goal.slice_bounds-begin-end
slice_bounds-begin-end c = sym (length-take-le _ _ (long_coefficients (goal.at.slice_bounds-begin-end c).In_ok-refusal))

pub slice_bounds-targets-end : goal.slice_bounds-targets-end
slice_bounds-targets-end c = long_targets (goal.at.slice_bounds-targets-end c).In_ok-refusal

pub slice_bounds-begin-end-2 : goal.slice_bounds-begin-end-2
slice_bounds-begin-end-2 c = sym (length-take-le _ _ (long_targets (goal.at.slice_bounds-begin-end-2 c).In_ok-refusal))

pub slice_bounds-increments-end : goal.slice_bounds-increments-end
slice_bounds-increments-end c = long_increments (goal.at.slice_bounds-increments-end c).In_ok-refusal

pub slice_bounds-begin-end-3 : goal.slice_bounds-begin-end-3
slice_bounds-begin-end-3 c = sym (length-take-le _ _ (long_increments (goal.at.slice_bounds-begin-end-3 c).In_ok-refusal))

pub begin-requires : goal.begin-requires
begin-requires c =
    let here = (goal.at.begin-requires c).In_ok-refusal in
    let entries = (fits here).entries in
    record {
      in_bounds = (omega (arith, entries, (size here).nmcp_least), omega (arith, entries, (size here).nmcp_most), (size here).stage_most, (size here).fperiod_most);
      start_len = (length-take-le _ _ (long_coefficients here) ∙ sym entries, length-take-le _ _ (long_targets here) ∙ sym entries, length-take-le _ _ (long_increments here) ∙ sym entries);
    }

pub returns-in_default : goal.returns-in_default
returns-in_default c =
    subst (λ (r : Refusal). Accepts (frame_of c.args.frame) c.args.voice.now (Err r)) (sym c.from-outside.ensures)
    (accepts_outside (frame_of c.args.frame) c.args.voice.now (none (goal.at.returns-in_default c).In_ok-refusal)
    (is_outside (asked (frame_of c.args.frame) c.args.voice.now) _ c.begin.ensures.value c.in_default.is))

pub slice_bounds-lpf-end : goal.slice_bounds-lpf-end
slice_bounds-lpf-end c = long_lpf (goal.at.slice_bounds-lpf-end c).In_ok-refusal

pub slice_bounds-copy_from_slice-end : goal.slice_bounds-copy_from_slice-end
slice_bounds-copy_from_slice-end c = sym (length-take-le _ _ (long_lpf (goal.at.slice_bounds-copy_from_slice-end c).In_ok-refusal))

pub copy_from_slice-requires : goal.copy_from_slice-requires
copy_from_slice-requires c = let here = (goal.at.copy_from_slice-requires c).In_ok-refusal in length-take-le _ _ (long_lpf here) ∙ sym (fits here).taps

pub pitch-pitch-requires : goal.pitch-pitch-requires
pitch-pitch-requires c = (size (goal.at.pitch-pitch-requires c).In_ok-refusal).rate_most

pub start-requires : goal.start-requires
start-requires c = omega (arith, (size (goal.at.start-requires c).In_ok-refusal).fperiod_most)

pub returns : goal.returns
returns c =
    let here = (goal.at.returns c).In_ok-refusal in
    let n : length c.begin.new.start ≡ c.args.voice.now.configuration.nmcp = c.begin.auto.start ∙ length-take-le _ _ (long_coefficients here) in
    let k : length c.begin.new.targets ≡ c.args.voice.now.configuration.nmcp = c.begin.auto.targets ∙ length-take-le _ _ (long_targets here) in
    let m : length c.begin.new.increments ≡ c.args.voice.now.configuration.nmcp = c.begin.auto.increments ∙ length-take-le _ _ (long_increments here) in
    rw c.copy_from_slice.ensures.after
    (accepts_inside (frame_of c.args.frame) c.args.voice.now (none here) _ _ _ _ (rw c.pitch-pitch.ensures at c.start.ensures) n m k (fits here).taps
    (asked (frame_of c.args.frame) c.args.voice.now) refl (sym c.begin.ensures.value ∙ c.in-Ok.is) c.begin.ensures.start_after c.begin.ensures.targets_after c.begin.ensures.increments_after)
