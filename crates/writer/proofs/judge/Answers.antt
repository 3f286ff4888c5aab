use Rattle.std.proofs.Common.{leb-true, ap, ap₂, arith, sym, List, ℕ, ◌+◌, ◌∙◌, ◌≡◌}
use Rattle.std.proofs.lemmas.Result.{err_from_is_err_and}
use Rattle.bits.specs.declared.Refusal.TheVariants.{NotValid}
use Rattle.bits.specs.Refusals.{number_of}
use Rattle.form.specs.Answer.{refused_to, writing, first_refused}
use Rattle.form.specs.Lemmas.Facts.{timing-facts}
use Rattle.form.specs.Lemmas.Facts.{programme-facts, beds_le}
use Rattle.form.specs.Lemmas.Tests.{halves}
use Rattle.oamd.specs.declared.Shares.{Shares}
use Rattle.writer.specs.Survey.{first_wrong}
use Rattle.writer.proofs.Surveys.{gathered}
use Rattle.writer.proofs.Whole.{Accepted, bad-programme, bad-timing, few_bytes_lem, bad_record, bad-trim, good-trim}
use Rattle.writer.proofs.judge.Goals as goal
use Rattle.writer.proofs.judge.Goals.{After-shares, Else-records-count}

-- the first three tests are passed
accepted : (c : Else-records-count) → Accepted c.args.programme c.args.timing c.args.records.now
accepted c = record {
  programme = sym c.programme_valid.ensures ∙ c.if-not-programme_valid.false;
  timing = sym c.timing_valid.ensures ∙ c.if-not-timing_valid.false;
  whole = omega (arith, c.record_count-count.ensures.0, c.if-records-count.false);
}

-- and the pass over the records looks for the first that is refused
first : (c : After-shares) → let a = c.args in
    first_wrong c.shares.result a.frame a.timing a.records.now c.record_count-count.result ≡ first_refused a.frame a.programme a.timing a.records.now
unfolding first_refused
first c =
    let a = c.args in
    ap₂ (λ (x : Shares) (n : ℕ). first_wrong x a.frame a.timing a.records.now n) c.shares.ensures.0 c.record_count-count.ensures.0

pub returns-then-not-programme_valid-clause-refused : goal.returns-then-not-programme_valid-clause-refused
returns-then-not-programme_valid-clause-refused c = λ out.
    bad-programme _ _ _ _ _ out (sym c.programme_valid.ensures ∙ c.if-not-programme_valid.true)

pub returns-then-not-timing_valid-clause-refused : goal.returns-then-not-timing_valid-clause-refused
returns-then-not-timing_valid-clause-refused c = λ out.
    bad-timing _ _ _ _ _ out (sym c.programme_valid.ensures ∙ c.if-not-programme_valid.false) (sym c.timing_valid.ensures ∙ c.if-not-timing_valid.true)

pub returns-then-records-count-clause-refused : goal.returns-then-records-count-clause-refused
returns-then-records-count-clause-refused c = λ out.
    few_bytes_lem _ _ _ _ _ out (sym c.programme_valid.ensures ∙ c.if-not-programme_valid.false)
    (sym c.timing_valid.ensures ∙ c.if-not-timing_valid.false) (omega (arith, c.record_count-count.ensures.0, c.if-records-count.true))

pub survey-requires : goal.survey-requires
survey-requires c =
    let tables = accepted (goal.at.survey-requires c).Else-records-count in
    let few = (timing-facts _ tables.timing).blocks in
    let count = c.record_count-count.ensures in
    (omega (arith, tables.whole, count.0), omega (arith, count.1), few)

pub returns-in_err-found-clause-refused : goal.returns-in_err-found-clause-refused
returns-in_err-found-clause-refused c =
    let tables = accepted (goal.at.returns-in_err-found-clause-refused c).Else-records-count in
    let same = first (goal.at.returns-in_err-found-clause-refused c).After-shares in
    let wrong = c.in_err-found.ensures.refused in
    let count = c.record_count-count.ensures.0 in
    let a = c.args in
    let place : (out : List ℕ) → refused_to out (number_of NotValid) c.in_err-found.field-0.0 ≡ writing a.frame a.programme a.timing a.records.now a.trim.now out =
    λ out. ap (refused_to out (number_of NotValid)) wrong.is ∙ bad_record _ _ _ _ _ out tables same (omega (arith, count, wrong.wrong)) in
    let err = err_from_is_err_and c.from_residual.result c.from_residual.ensures.1 in
    rw err.1 (λ out. ap (refused_to out (number_of NotValid)) err.2 ∙ place out)

pub returns-then-not-trim_valid-clause-refused : goal.returns-then-not-trim_valid-clause-refused
returns-then-not-trim_valid-clause-refused c = λ out.
    let count = c.record_count-count.ensures.0 in
    ap (λ (k : ℕ). refused_to out (number_of NotValid) (1 + k)) count
    ∙ bad-trim _ _ _ _ _ out (accepted (goal.at.returns-then-not-trim_valid-clause-refused c).Else-records-count)
    (first (goal.at.returns-then-not-trim_valid-clause-refused c).After-shares) (omega (arith, count, c.in_ok-found.ensures.found.right))
    (sym c.trim_valid.ensures ∙ c.if-not-trim_valid.true)

pub returns-clause-found : goal.returns-clause-found
returns-clause-found c =
    let a = c.args in
    let tables = accepted (goal.at.returns-clause-found c).Else-records-count in
    let facts = programme-facts a.programme tables.programme in
    let few = (timing-facts a.timing tables.timing).blocks in
    let valid = sym c.trim_valid.ensures ∙ c.if-not-trim_valid.false in
    let found = c.in_ok-found.ensures.found in
    let count = c.record_count-count.ensures.0 in
    record {
      enough = record {
        beds = omega (arith, beds_le a.programme facts, facts.nine);
        blocks = few;
        records = tables.whole;
        trim = leb-true _ _ (halves _ _ valid).0;
      };
      gathered = gathered _ _ a.programme a.timing _ found count few;
      answer = λ out. good-trim _ _ _ _ _ out tables (first (goal.at.returns-clause-found c).After-shares) (omega (arith, count, found.right)) valid;
    }
