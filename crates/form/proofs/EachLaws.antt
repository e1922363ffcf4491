-- The loops that judge a container's fields, whatever the judge and whatever the reader.
--
-- The laws, for a verdict v that is that of the fields that are left (`RestBy`), and with an index that counts them (`each-from-`):
--       each-end  at the end v is fine
--       each-cut  where no whole field stands, v is what a cut is
--   each-refused  a fault of the field that stands there is v
--      each_next  where it is fine, v is the verdict of the fields from its end on
-- `each_loop` and `each_from_loop` have these, for any reader; `each_laws` and `each_from_laws` all that a loop over the fields of
-- `field_at` needs, but its start, which is `rest-start`.
--
-- Assumes nothing.
use Rattle.std.specs.Prelude.{◌≡◌, List, ℕ, ◌+◌, ◌≤◌, ◌<◌, length, Err, None, Option, Some}
use Rattle.basis.specs.Kit.{sym, ◌∙◌}
use Rattle.reply.specs.declared.Refusal.{Refusal}
use Rattle.reply.proofs.VerdictLaws.{first-refused, first_fine}
use Rattle.field.specs.declared.fields.Fields.{Fields}
use Rattle.field.specs.Fields.{Goes}
use Rattle.field.specs.Walk.{Reader, walk_by, walk}
use Rattle.form.specs.Each.{each, each_from}
use Rattle.field.proofs.FieldLaws.{field-within, field-less}
use Rattle.field.proofs.InFields.{RestIn, over-ordered, over-within, rest-in-end, rest-in-cut, rest-in-step, rest-in-next}
use Rattle.field.proofs.Rest.{RestBy, rest_end, rest-cut, rest-step, rest-next}
use Rattle.field.specs.declared.Field.{Field}
use Rattle.reply.specs.Verdicts.{Verdict, fine}

module _ {next : Reader} (bad : Refusal) (f : ℕ → ℕ → ℕ → Verdict) (v : Verdict) (s : List ℕ) (to i : ℕ)
    (k : RestBy next v (each bad f) s to i) where
  pub each-end : to ≤ i → fine ≡ v
  each-end h = sym (rest_end v (each bad f) s to i k h)

  module _ (h : i < to) (r : Option Field) (q : r ≡ next s i to) where
    pub each-cut : r ≡ None → Err bad ≡ v
    each-cut g = sym (rest-cut v (each bad f) s to i k h r q g)

    module _ (here : Field) (g : r ≡ Some here) (u : Verdict) (p : u ≡ f here.tag here.from here.to) where
      pub each-refused : (w : Refusal) → u ≡ Err w → Err w ≡ v
      each-refused w x =
          first-refused (f here.tag here.from here.to) (each bad f (walk_by next s here.to to)) w (sym p ∙ x) ∙ sym (rest-step v (each bad f) s to i k h r q here g)

      pub each_next : u ≡ fine → RestBy next v (each bad f) s to here.to
      each_next x = rest-next v (each bad f) s to i k h r q here g (each bad f)
          (sym (first_fine (f here.tag here.from here.to) (each bad f (walk_by next s here.to to)) (sym p ∙ x)))

module _ {next : Reader} (bad : Refusal) (f : ℕ → ℕ → ℕ → ℕ → Verdict) (v : Verdict) (s : List ℕ) (to i n : ℕ)
    (k : RestBy next v (each_from bad f n) s to i) where
  pub each-from-end : to ≤ i → fine ≡ v
  each-from-end h = sym (rest_end v (each_from bad f n) s to i k h)

  module _ (h : i < to) (r : Option Field) (q : r ≡ next s i to) where
    pub each-from-cut : r ≡ None → Err bad ≡ v
    each-from-cut g = sym (rest-cut v (each_from bad f n) s to i k h r q g)

    module _ (here : Field) (g : r ≡ Some here) (u : Verdict) (p : u ≡ f n here.tag here.from here.to) where
      pub each-from-refused : (w : Refusal) → u ≡ Err w → Err w ≡ v
      each-from-refused w x =
          first-refused (f n here.tag here.from here.to) (each_from bad f (n + 1) (walk_by next s here.to to)) w (sym p ∙ x)
          ∙ sym (rest-step v (each_from bad f n) s to i k h r q here g)

      pub each-from-next : u ≡ fine → RestBy next v (each_from bad f (n + 1)) s to here.to
      each-from-next x =
          rest-next v (each_from bad f n) s to i k h r q here g (each_from bad f (n + 1))
          (sym (first_fine (f n here.tag here.from here.to) (each_from bad f (n + 1) (walk_by next s here.to to)) (sym p ∙ x)))

-- ---- the same of a `for` over fields
module _ (bad : Refusal) (f : ℕ → ℕ → ℕ → Verdict) (v : Verdict) (s : List ℕ) (to : ℕ) (it : Fields)
    (k : RestIn v (each bad f) s to it) where
  pub each-in-end : it.end ≤ it.at → fine ≡ v
  each-in-end h = sym (rest-in-end v (each bad f) s to it k h)

  module _ (it' : Fields) (o : Option Field) (x : Goes it it' o) where
    pub each-in-cut : o ≡ None → Err bad ≡ v
    each-in-cut g = sym (rest-in-cut v (each bad f) s to it k it' o x g)

    module _ (w : Field) (g : o ≡ Some w) where
      pub each-in-ordered : w.from ≤ w.to
      each-in-ordered = over-ordered k.over it' o x w g

      pub each-in-within : to ≤ length s → w.to ≤ length s
      each-in-within h = over-within k.over it' o x w g h

      module _ (u : Verdict) (p : u ≡ f w.tag w.from w.to) where
        pub each-in-refused : (y : Refusal) → u ≡ Err y → Err y ≡ v
        each-in-refused y e =
            first-refused (f w.tag w.from w.to) (each bad f (walk s w.to to)) y (sym p ∙ e)
            ∙ sym (rest-in-step v (each bad f) s to it k it' o x w g)

        pub each-in-next : u ≡ fine → RestIn v (each bad f) s to it'
        each-in-next e = rest-in-next v (each bad f) s to it k it' o x w g (each bad f)
            (sym (first_fine (f w.tag w.from w.to) (each bad f (walk s w.to to)) (sym p ∙ e)))

pub ruleset each_in_laws = (each-in-end, each-in-cut, each-in-ordered, each-in-within, each-in-refused, each-in-next)

module _ (bad : Refusal) (f : ℕ → ℕ → ℕ → ℕ → Verdict) (v : Verdict) (s : List ℕ) (to n : ℕ) (it : Fields)
    (k : RestIn v (each_from bad f n) s to it) where
  pub each-from-in-end : it.end ≤ it.at → fine ≡ v
  each-from-in-end h = sym (rest-in-end v (each_from bad f n) s to it k h)

  module _ (it' : Fields) (o : Option Field) (x : Goes it it' o) where
    pub each-from-in-cut : o ≡ None → Err bad ≡ v
    each-from-in-cut g = sym (rest-in-cut v (each_from bad f n) s to it k it' o x g)

    module _ (w : Field) (g : o ≡ Some w) where
      pub each-from-in-ordered : w.from ≤ w.to
      each-from-in-ordered = over-ordered k.over it' o x w g

      pub each-from-in-within : to ≤ length s → w.to ≤ length s
      each-from-in-within h = over-within k.over it' o x w g h

      module _ (u : Verdict) (p : u ≡ f n w.tag w.from w.to) where
        pub each-from-in-refused : (y : Refusal) → u ≡ Err y → Err y ≡ v
        each-from-in-refused y e =
            first-refused (f n w.tag w.from w.to) (each_from bad f (n + 1) (walk s w.to to)) y (sym p ∙ e)
            ∙ sym (rest-in-step v (each_from bad f n) s to it k it' o x w g)

        pub each-from-in-next : u ≡ fine → RestIn v (each_from bad f (n + 1)) s to it'
        each-from-in-next e = rest-in-next v (each_from bad f n) s to it k it' o x w g (each_from bad f (n + 1))
            (sym (first_fine (f n w.tag w.from w.to) (each_from bad f (n + 1) (walk s w.to to)) (sym p ∙ e)))

pub ruleset each_from_in_laws =
    (each-from-in-end, each-from-in-cut, each-from-in-ordered, each-from-in-within, each-from-in-refused, each-from-in-next)

pub ruleset each_loop = (each-end, each-cut, each-refused, each_next)

pub ruleset each_laws = (each_loop, field-within, field-less)

pub ruleset each_from_loop = (each-from-end, each-from-cut, each-from-refused, each-from-next)

pub ruleset each_from_laws = (each_from_loop, field-within, field-less)
