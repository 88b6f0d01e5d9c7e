-- What the limits say of the sizes. Assumes nothing.
use mathlib.Core.Path.{◌≡◌}
use mathlib.Core.Bool.{true, ◌&&◌}
use Prim.Native.Nat.{◌≤◌}
use lib.Dec.{leb}
use borrow.Author.Tests.{leb-true}
use Rattle.number.proofs.Floats.{both_first, both_second}
use Rattle.configuration.specs.declared.Configuration.{Configuration}
use Rattle.configuration.specs.Limits.{numbers_kept, floats_kept, limits_kept}

pub record Sizes (c : Configuration) : Type 0 where
  pub nmcp_least : 2 ≤ c.nmcp
  pub nmcp_most : c.nmcp ≤ 64
  pub nlpf_most : c.nlpf ≤ 64
  pub stage_most : c.stage ≤ 8
  pub rate_most : c.rate ≤ 192000
  pub fperiod_least : 1 ≤ c.fperiod
  pub fperiod_most : c.fperiod ≤ 4800

pub sizes : (c : Configuration) → limits_kept c ≡ true → Sizes c
unfolding limits_kept
sizes c kept =
    let nmcp = leb 2 c.nmcp && leb c.nmcp 64 in
    let nlpf = nmcp && leb c.nlpf 64 in
    let stage = nlpf && leb c.stage 8 in
    let rate = stage && leb 1 c.rate && leb c.rate 192000 in
    let numbers = both_first (numbers_kept c) (floats_kept c) kept in
    let without = both_first (rate && leb 1 c.fperiod) (leb c.fperiod 4800) numbers in
    let rates = both_first rate (leb 1 c.fperiod) without in
    let fewer = both_first (stage && leb 1 c.rate) (leb c.rate 192000) rates in
    let stages = both_first stage (leb 1 c.rate) fewer in
    let taps = both_first nlpf (leb c.stage 8) stages in
    let entries = both_first nmcp (leb c.nlpf 64) taps in
    record {
      nmcp_least = leb-true 2 c.nmcp (both_first (leb 2 c.nmcp) (leb c.nmcp 64) entries);
      nmcp_most = leb-true c.nmcp 64 (both_second (leb 2 c.nmcp) (leb c.nmcp 64) entries);
      nlpf_most = leb-true c.nlpf 64 (both_second nmcp (leb c.nlpf 64) taps);
      stage_most = leb-true c.stage 8 (both_second nlpf (leb c.stage 8) stages);
      rate_most = leb-true c.rate 192000 (both_second (stage && leb 1 c.rate) (leb c.rate 192000) rates);
      fperiod_least = leb-true 1 c.fperiod (both_second rate (leb 1 c.fperiod) without);
      fperiod_most = leb-true c.fperiod 4800 (both_second (rate && leb 1 c.fperiod) (leb c.fperiod 4800) numbers);
    }
