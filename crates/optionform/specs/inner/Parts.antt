-- What a walk over the parts of a name carries: from this place on stand good parts, and then what follows them.
--
--      LastConstant s at end <-> the field at a place is a fine constant, and it ends at `end`
--   FineParts after s at end <-> the parts from the place `at` on are what 01 allows, and `after` holds of the place where they end
--       OptionParts s at end <-> so it is, and the parts are followed by an option's constant
--         NameParts s at end <-> so it is, and the parts are followed by nothing
--
-- Assumes nothing.
use Rattle.std.specs.Prelude.{◌≡◌, true, List, ℕ, Some}
use Rattle.limits.specs.Figures.{most_constants}
use Rattle.field.specs.Field.{field_at, field}
use Rattle.field.specs.Walk.{walk}
use Rattle.request.specs.Name.{parts_in, after_parts}
use Rattle.constantform.specs.Form.{judge_constant}
use Rattle.optionform.specs.Fine.{good_parts}
use Rattle.reply.specs.Verdicts.{fine}

pub record LastConstant (s : List ℕ) (at end : ℕ) : Type 0 where
  pub tag : ℕ
  pub from : ℕ
  pub to : ℕ
  pub whole : field_at s at end ≡ Some (field tag from to)
  pub fine : judge_constant most_constants s tag from to ≡ fine
  pub ends : to ≡ end

pub record FineParts (after : (at end : ℕ) → Type 0) (s : List ℕ) (at end : ℕ) : Type 0 where
  pub good : good_parts s (parts_in (walk s at end)) ≡ true
  pub follows : after (after_parts at (walk s at end)) end

abbrev pub OptionParts : (s : List ℕ) (at end : ℕ) → Type 0
OptionParts s = FineParts (LastConstant s) s

abbrev pub NameParts : (s : List ℕ) (at end : ℕ) → Type 0
NameParts = FineParts (◌≡◌ {A = ℕ})
