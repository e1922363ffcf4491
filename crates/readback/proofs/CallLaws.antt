-- What the calls `list` and `query` come to, in terms of the records of the option bytes: where they give words, their inputs are fine, the
-- bytes are read, and the words are those of rows.
-- Assumes nothing.
use Rattle.std.specs.Prelude.{◌≡◌, refl, List, ℕ, Err, Ok}
use Rattle.basis.proofs.Never.{never}
use Rattle.reply.specs.Outcome.{Outcome, unless, nothing, give}
use Rattle.reply.proofs.VerdictLaws.{first-fine-front, first-fine-rest}
use Rattle.sheetform.specs.Form.{judge_sheet}
use Rattle.requestform.specs.Form.{judge_options_type, judge_name}
use Rattle.lookups.specs.Lookups.{Message, walking}
use Rattle.entries.specs.Tree.{Tree, rows, words_of}
use Rattle.entries.specs.Reading.{Under, under, refused_by, records_of}
use Rattle.payload.specs.Payload.{judge_bytes}
use Rattle.listing.specs.Listing.{judge_inputs, listed, listing_of, listing_by, listing}
use Rattle.following.specs.Reached.{never as none_joins}
use Rattle.query.specs.Query.{query_of, query_by, query}
use Rattle.query.specs.Query as queries
use Rattle.readback.specs.Follows.{OwnRow}
use Rattle.readback.proofs.QueryLaws.{query-answers, leads-listed}
use Rattle.reply.specs.Verdicts.{Verdict, fine}

-- ---- an outcome that is no refusal is not that of a fault
given-fine : (v : Verdict) (o : Outcome ℕ) (ws : List ℕ) → unless v o ≡ give ws → (v ≡ fine) × (o ≡ give ws)
given-fine (Ok _) o ws e = (refl, e)
given-fine (Err w) o ws e = never cc

nothing-fine : (v : Verdict) (o : Outcome ℕ) → unless v o ≡ nothing → (v ≡ fine) × (o ≡ nothing)
nothing-fine (Ok _) o e = (refl, e)
nothing-fine (Err w) o e = never cc

-- ---- list
module _ (s type bs ws : List ℕ) where
  abbrev Read : Type 0
  Read = (m : Message) × (t : Tree) × (records_of (walking s) s type bs ≡ under m t) × (ws ≡ words_of (rows 0 t))

  listed-read : listing_of (walking s) s type bs ≡ give ws → Read
  listed-read = go (records_of (walking s) s type bs) refl
    where
      go : (u : Under) → records_of (walking s) s type bs ≡ u → listed u ≡ give ws → Read
      go (under m t) r e = (m, t, r, cc)
      go (refused_by w) r e = never cc

module _ (s type bs : List ℕ) where
  -- What `list` writes is the rows of what the bytes hold.
  pub list-reads : (ws : List ℕ) → listing s type bs ≡ give ws
      → (m : Message) × (t : Tree) × (records_of (walking s) s type bs ≡ under m t) × (ws ≡ words_of (rows 0 t))
  unfolding listing_by
  list-reads ws e = listed-read s type bs ws (given-fine (judge_inputs (judge_sheet s) type bs) _ ws e).1

  module _ (q : List ℕ) where
    -- `query` comes to what its definition over any look-ups does, of those that walk over the sheet, no records being joined: where its
    -- inputs are fine, so where it gives words or Absent.
    pub query-fine : queries.judge_inputs (judge_sheet s) type q bs ≡ fine
        → query s type q bs ≡ query_of none_joins (walking s) s type q bs
    unfolding query_by
    query-fine e = rw e

    pub query-of : (ws : List ℕ) → query s type q bs ≡ give ws → query_of none_joins (walking s) s type q bs ≡ give ws
    unfolding query_by
    query-of ws e = (given-fine (queries.judge_inputs (judge_sheet s) type q bs) _ ws e).1

    pub query-of-none : query s type q bs ≡ nothing → query_of none_joins (walking s) s type q bs ≡ nothing
    unfolding query_by
    query-of-none e = (nothing-fine (queries.judge_inputs (judge_sheet s) type q bs) _ e).1

    -- where its inputs are fine, so are those of `list`
    inputs-fine : queries.judge_inputs (judge_sheet s) type q bs ≡ fine → judge_inputs (judge_sheet s) type bs ≡ fine
    unfolding judge_inputs queries.judge_inputs
    inputs-fine e =
        let sheet = first-fine-front (judge_sheet s) _ e in
        let rest = first-fine-rest (judge_sheet s) _ e in
        let kind = first-fine-front (judge_options_type type) _ rest in
        let bytes = first-fine-rest (judge_name q) (judge_bytes bs) (first-fine-rest (judge_options_type type) _ rest) in
        rw (sheet, kind) bytes

    -- Its answer is a row that `list` writes of the same bytes.
    pub query-own : (ws : List ℕ) → query s type q bs ≡ give ws → OwnRow s type bs ws
    unfolding query_by listing_by
    query-own ws e =
        let fine = given-fine (queries.judge_inputs (judge_sheet s) type q bs) _ ws e in
        let a = query-answers none_joins (walking s) s type q bs ws fine.1 in
        record {
          rows = rows 0 a.1.tree;
          listed = rw (inputs-fine fine.0, a.1.read);
          own = a.0;
          among = leads-listed none_joins (walking s) s type q bs a.0 a.1;
          is = a.2;
        }
