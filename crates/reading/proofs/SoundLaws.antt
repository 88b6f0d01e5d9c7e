-- What holds of sound slots. Assumes nothing.
use mathlib.Core.Path.{◌≡◌, refl, sym, ◌∙◌, ap, subst}
use mathlib.Core.Bool.{Bool, true, false, ◌&&◌}
use mathlib.Core.List.{List}
use Prim.Native.Nat.{ℕ, ◌+◌, ◌≤◌}
use lib.Dec.{eqb}
use lib.ListN.{length}
use borrow.Author.Tests.{eqb-true}
use Rattle.number.proofs.Floats.{both_first, both_second}
use Rattle.configuration.specs.declared.Configuration.{Configuration}
use Rattle.configuration.specs.Limits.{limits_kept}
use Rattle.configuration.proofs.LimitsLaws.{Sizes, sizes}
use Rattle.voice.specs.Voice.{acceptable}
use Rattle.voice.proofs.IdleLaws.{kept_of}
use Rattle.slots.specs.Slots.{slot_at, configuration_in, first_in, noise_at, filter_at, filter_count, count_of}
use Rattle.slots.specs.Sound.{forms_kept, flags_kept, rules_kept, sound}
use Rattle.slots.proofs.CountLaws.{count_parts}

module _ (ws : List ℕ) where
  abbrev c : Configuration
  c = configuration_in ws

  pub record Sounds : Type 0 where
    pub count : length ws ≡ count_of c
    pub rules : rules_kept c ws ≡ true
    pub flags : flags_kept ws ≡ true
    pub forms : forms_kept c.nlpf ws ≡ true
    pub limits : limits_kept c ≡ true
    pub size : Sizes c
    pub room : filter_at c.nmcp c.nlpf + filter_count c ≡ length ws

  pub sound_of : sound ws ≡ true → Sounds
  unfolding sound
  sound_of e =
      let all = both_second (eqb (length ws) (count_of c)) (rules_kept c ws && flags_kept ws && forms_kept c.nlpf ws) e in
      let pair = both_first (rules_kept c ws && flags_kept ws) (forms_kept c.nlpf ws) all in
      let rules = both_first (rules_kept c ws) (flags_kept ws) pair in
      let count = eqb-true (length ws) (count_of c) (both_first (eqb (length ws) (count_of c)) (rules_kept c ws && flags_kept ws && forms_kept c.nlpf ws) e) in
      let limits = kept_of c (slot_at ws 12) (slot_at ws 13) (first_in ws) (slot_at ws (noise_at c.nlpf + 1)) rules in
      record {
        count = count;
        rules = rules;
        flags = both_second (rules_kept c ws) (flags_kept ws) pair;
        forms = both_second (rules_kept c ws && flags_kept ws) (forms_kept c.nlpf ws) all;
        limits = limits;
        size = sizes c limits;
        room = sym (count_parts c) ∙ sym count;
      }

-- a configuration read from sound slots: its limits, and that all parts have room
pub record Room (k : Configuration) (n : ℕ) : Type 0 where
  pub limits : limits_kept k ≡ true
  pub nmcp : k.nmcp ≤ 64
  pub nlpf : k.nlpf ≤ 64
  pub room : filter_at k.nmcp k.nlpf + filter_count k ≡ n

pub room_with : (k : Configuration) (n : ℕ) → limits_kept k ≡ true → count_of k ≡ n → Room k n
room_with k n kept count = record { limits = kept; nmcp = (sizes k kept).nmcp_most; nlpf = (sizes k kept).nlpf_most; room = sym (count_parts k) ∙ count }

pub room_of : (ws : List ℕ) (k : Configuration) → sound ws ≡ true → k ≡ configuration_in ws → Room k (length ws)
room_of ws k e same =
    let all = sound_of ws e in
    subst (λ (d : Configuration). Room d (length ws)) (sym same) (room_with (configuration_in ws) (length ws) all.limits (sym all.count))

-- ---- test by test, of the configuration k that was read

module _ (ws : List ℕ) (k : Configuration) (same : k ≡ configuration_in ws) where
  abbrev rest : Bool
  rest = rules_kept k ws && flags_kept ws && forms_kept k.nlpf ws

  by_tests : (eqb (length ws) (count_of k) && rest) ≡ sound ws
  unfolding sound
  by_tests = ap (λ (d : Configuration). eqb (length ws) (count_of d) && (rules_kept d ws && flags_kept ws && forms_kept d.nlpf ws)) same

  pub unsound_limits : limits_kept k ≡ false → false ≡ sound ws
  unfolding acceptable
  unsound_limits e = go (eqb (length ws) (count_of k)) refl ∙ by_tests
    where
      go : (b : Bool) → eqb (length ws) (count_of k) ≡ b → false ≡ (eqb (length ws) (count_of k) && rest)
      go true q = rw (q, e) refl
      go false q = rw q refl

  pub unsound_count : eqb (length ws) (count_of k) ≡ false → false ≡ sound ws
  unsound_count e = sym (ap (λ (b : Bool). b && rest) e) ∙ by_tests

  pub sound_where : eqb (length ws) (count_of k) ≡ true → rest ≡ sound ws
  sound_where e = sym (ap (λ (b : Bool). b && rest) e) ∙ by_tests
