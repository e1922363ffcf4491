-- What a walk over the fields between two places gives.
use Rattle.std.specs.Prelude.{◌≡◌, ℕ, ◌<◌, ◌≤◌, Option, Some, None}
use Rattle.field.specs.declared.Field.{Field}
use Rattle.field.specs.declared.fields.Fields.{Fields}
use Rattle.field.specs.Field.{field_at}

abbrev pub behind : (end : ℕ) → Option Field → ℕ
behind end None = end
behind end (Some f) = f.to

pub record Goes (s t : Fields) (o : Option Field) : Type 0 where
  pub before : s.at < s.end
  pub is : o ≡ field_at s.bytes.now s.at s.end
  pub bytes : t.bytes.now ≡ s.bytes.now
  pub end : t.end ≡ s.end
  pub at : t.at ≡ behind s.end o

abbrev pub Gives : Fields → Option (Option Field) → Fields → Type 0
Gives s None t = s.end ≤ s.at
Gives s (Some o) t = Goes s t o
