-- What the two positions of an answer of `query` say.
-- Assumes nothing.
use Rattle.std.specs.Prelude.{◌≡◌, refl, List, [], ℕ, ◌<◌, length, Option, None, Some, Err, Ok}
use Rattle.basis.specs.Kit.{sym, ap, ◌∙◌}
use Rattle.basis.proofs.Kit.{arith}
use Rattle.basis.proofs.Never.{never}
use Rattle.reply.specs.declared.Refusal.{Refusal}
use Rattle.reply.specs.declared.Answer.{Answer}
use Rattle.reply.specs.Reply.{nowhere, refused_for}
use Rattle.reply.specs.Outcome.{Outcome, refuse, within, answer_of, Answered}
use Rattle.reply.specs.Outcome as outcome
use Rattle.reply.specs.Verdicts.{first_fault, Verdict, fine}
use Rattle.reply.proofs.VerdictLaws.{refused-fine, first-fine-front, first-fine-rest}
use Rattle.sheetform.specs.Form.{judge_sheet}
use Rattle.requestform.specs.Form.{judge_options_type, judge_name}
use Rattle.requestform.proofs.FineLaws.{fine-name-few}
use Rattle.payload.specs.Payload.{judge_bytes}
use Rattle.lookups.specs.Lookups.{Message, walking}
use Rattle.entries.specs.declared.Row.{Row}
use Rattle.entries.specs.Tree.{Tree}
use Rattle.entries.specs.Reading.{Under, under, refused_by as unread, records_of}
use Rattle.following.specs.Reached.{never as joins_none, reached}
use Rattle.naming.specs.Name.{Named, names, group, refused_at, of_part, declarations}
use Rattle.query.specs.Query.{answered, on_named, on_records, query_of, judge_inputs, query_by, query}
use Rattle.places.specs.Parts.{AtPart}
use Rattle.places.specs.Places.{parts_of, NothingBehind, NameRefused, QueryPlaced, Bare}
use Rattle.places.proofs.PartLaws.{at-below}
use Rattle.places.proofs.NameLaws.{query-fault}
use Rattle.entries.specs.Tree.{words}
use Rattle.places.proofs.BareLaws.{bare-refuse, bare-nothing, bare-give, bare-nowhere}

module _ (s type q bs : List ℕ) where
  abbrev come : Outcome ℕ
  come = query s type q bs

  query-named : (k : NameRefused s type q bs) → come ≡ outcome.refused (of_part k.part k.why)
  unfolding query_by query_of
  query-named k = rw (k.fine, k.read, k.refused) refl

  name-fine : judge_inputs (judge_sheet s) type q bs ≡ fine → judge_name q ≡ fine
  unfolding judge_inputs
  name-fine f =
      first-fine-front (judge_name q) (judge_bytes bs)
      (first-fine-rest (judge_options_type type) (first_fault (judge_name q) (judge_bytes bs))
      (first-fine-rest (judge_sheet s) (first_fault (judge_options_type type) (first_fault (judge_name q) (judge_bytes bs))) f))

  data Asked : Type 0 where
    named : NameRefused s type q bs → Asked
    other : (NameRefused s type q bs → ⊥) → Bare come → Asked

  query-not : {o : Outcome ℕ} → come ≡ o → Bare o → Bare come
  query-not e h c g = h c (sym e ∙ g)

  bare-answered : (x : Option Row) → Bare (answered x)
  bare-answered None = bare-nothing
  bare-answered (Some y) = bare-give (words y)

  module _ (f : judge_inputs (judge_sheet s) type q bs ≡ fine) where
    of-records : (u : Under) → records_of (walking s) s type bs ≡ u → come ≡ on_records joins_none (walking s) s q u
    unfolding query_by query_of
    of-records u g = rw (f, g) refl

    module _ (m : Message) (t : Tree) (g : records_of (walking s) s type bs ≡ under m t) where
      of-name : (n : Named) → declarations (walking s) s q 0 m (parts_of q) ≡ n → come ≡ on_named joins_none n t
      of-name n h = of-records (under m t) g ∙ ap (λ (x : Named). on_named joins_none x t) h

      same_name : (k : NameRefused s type q bs) (n : Named) → declarations (walking s) s q 0 m (parts_of q) ≡ n → n ≡ refused_at k.part k.why
      same_name k n h =
          let y : under k.message k.records ≡ under m t = sym k.read ∙ g in
          let z : k.message ≡ m = cc in
          sym h ∙ ap (λ (x : Message). declarations (walking s) s q 0 x (parts_of q)) (sym z) ∙ k.refused

      by_name : (n : Named) → declarations (walking s) s q 0 m (parts_of q) ≡ n → Asked
      by_name (refused_at i w) h =
          named (record { fine = f; message = m; records = t; read = g; part = i; why = w; refused = h })
      by_name group h = other (λ k. let y = same_name k group h in never cc) (query-not (of-name group h) bare-nothing)
      by_name (names ds) h =
          other (λ k. let y = same_name k (names ds) h in never cc)
          (query-not (of-name (names ds) h) (bare-answered (reached joins_none 0 ds t)))

    by-records : (u : Under) → records_of (walking s) s type bs ≡ u → Asked
    by-records (under m t) g = by_name m t g (declarations (walking s) s q 0 m (parts_of q)) refl
    by-records (unread w) g =
        other (λ k. let y : under k.message k.records ≡ unread w = sym k.read ∙ g in never cc)
        (query-not (of-records (unread w) g) (bare-refuse w))

  of-faulty : (w : Refusal) → judge_inputs (judge_sheet s) type q bs ≡ Err w → come ≡ refuse w
  unfolding query_by
  of-faulty w f = rw f refl

  by-inputs : (v : Verdict) → judge_inputs (judge_sheet s) type q bs ≡ v → Asked
  by-inputs (Ok _) f = by-records f (records_of (walking s) s type bs) refl
  by-inputs (Err w) f = other (λ k. refused-fine w (sym f ∙ k.fine)) (query-not (of-faulty w f) (bare-refuse w))

  module _ (before after : List ℕ) (a : Answer) (k : Answered (query s type q bs) before after a) where
    named-answer : (n : NameRefused s type q bs) → a ≡ refused_for (of_part n.part n.why)
    named-answer n = k.answer ∙ ap (λ (o : Outcome ℕ). answer_of (within (length before) o)) (query-named n)

    named-at : (n : NameRefused s type q bs) → AtPart (walking s) s q [] NothingBehind n.message (parts_of q) n.part n.why
    named-at n = query-fault (walking s) s q n.part n.why n.message (parts_of q) n.refused

    named-below : (n : NameRefused s type q bs) → n.part < length (parts_of q)
    named-below n = at-below (walking s) s q [] (named-at n)

    named_small : (n : NameRefused s type q bs) → n.part < nowhere
    named_small n = omega (arith, named-below n, fine-name-few q (name-fine n.fine))

    placed_by : Asked → QueryPlaced s type q bs a
    placed_by (named n) = record {
      no-option = ap (λ (x : Answer). x.option) (named-answer n);
      whenever = named-answer;
      below = named-below;
      small = named_small;
      at = named-at;
      neither = λ z. absurd (z n);
    }
    placed_by (other z h) =
        let y = bare-nowhere k h in
        record {
          no-option = y.0;
          whenever = λ x. absurd (z x);
          below = λ x. absurd (z x);
          small = λ x. absurd (z x);
          at = λ x. absurd (z x);
          neither = λ _. y.1;
        }

    -- It has no option's position, and a part's exactly where its name is refused by its steps: that of the part at fault.
    pub query-placed : QueryPlaced s type q bs a
    query-placed = placed_by (by-inputs (judge_inputs (judge_sheet s) type q bs) refl)
