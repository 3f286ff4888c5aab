-- A trim table is bad exactly when no accepted payload with that programme gives it (docs/DECISIONS.md, point 46): a valid one is given by the payload of
-- that programme and that trim table alone, and whatever trim table is given is valid.
use Rattle.std.specs.Prelude.{◌≡◌, refl, true, List, [], ◌++◌, ◌↔◌, ℕ, ◌≤◌, length, drop}
use Rattle.std.proofs.Math.Path.{sym, ap, subst}
use Rattle.std.proofs.Common.{◌∙◌, arith, mul-zero, take-append-drop}
use Rattle.std.proofs.Math.Bool.{false}
use Rattle.std.proofs.lemmas.Bool.{false≢true}
use Rattle.oamd.specs.declared.Programme.{Programme}
use Rattle.oamd.specs.Programme.{has_reserved}
use Rattle.oamd.specs.Trim.{TrimTable, trim_needed}
use Rattle.oamd.specs.Payload.{Tables, no_timing, tables}
use Rattle.form.specs.Valid.{programme_valid, first_bad, trim_valid, Valid}
use Rattle.form.specs.Answer.{trim_at}
use Rattle.form.specs.Lemmas.Tests.{by-test}
use Rattle.form.specs.Lemmas.Facts.{programme-facts}
use Rattle.roundtrip.specs.Lemmas.TrimBack.{trim-facts}
use Rattle.roundtrip.specs.Lemmas.TableBytes.{trim-bytes, trim-again}
use Rattle.roundtrip.specs.Accepted.{no-timing_valid, accepted-valid}
use Rattle.roundtrip.specs.Given.{form-gives}
use Rattle.roundtrip.specs.GivenRecord.{few-fit}
use Rattle.roundtrip.specs.Promises.{TrimGiven, TrimGivenBy, TrimBytesGivenBy}

module _ (p : Programme) (v : programme_valid p ≡ true) where
  -- no update, no record, and this trim table
  abbrev bare : TrimTable → Tables
  bare x = record { programme = p; timing = no_timing; records = []; trim = x }

  bare-valid : (x : TrimTable) → trim_valid p.objects x ≡ true → Valid (bare x)
  unfolding first_bad
  bare-valid x h = record {
    programme = v;
    timing = no-timing_valid;
    count = sym (mul-zero p.objects);
    records = sym (mul-zero p.objects);
    trim = h;
  }

  -- a valid one is given
  given : (Q : TrimTable → Type 0) (x : TrimTable) → trim_valid p.objects x ≡ true → Q x → TrimGiven p Q
  given Q x h q = form-gives _ (bare x) (bare-valid x h) (few-fit (bare x) (bare-valid x h) (omega arith)) (refl, q)

  -- and what is given is valid
  given-valid : (Q : TrimTable → Type 0) (g : TrimGiven p Q)
      → trim_valid p.objects (tables g.payload.programme g.payload.known).trim ≡ true
  unfolding tables
  given-valid Q g =
      let clear : has_reserved g.payload.programme.content ≡ false =
      ap (λ (q : Programme). has_reserved q.content) g.gives.0 ∙ (programme-facts p v).reserved in
      let w = accepted-valid g.bytes g.payload g.end g.reads clear in
      subst (λ (q : Programme). trim_valid q.objects (tables g.payload.programme g.payload.known).trim ≡ true) g.gives.0 w.trim

  -- ---- the statements

  pub trim-given : (x : TrimTable) → (trim_valid p.objects x ≡ true) ↔ TrimGivenBy p x
  trim-given x = (λ h. given _ x h refl, λ g. subst (λ (t : TrimTable). trim_valid p.objects t ≡ true) g.gives.1 (given-valid _ g))

  -- in the words of the document
  pub trim-bad : (x : TrimTable) → (trim_valid p.objects x ≡ false) ↔ (TrimGivenBy p x → ⊥)
  trim-bad x = (
    (λ q g. false≢true (sym q ∙ (trim-given x).1 g)),
    (λ n. by-test (trim_valid p.objects x) (λ q. absurd (n ((trim-given x).0 q))) (λ q. q)),
  )

  -- over the bytes, where there are enough
  pub trim-bytes-given : (s : List ℕ) → trim_needed p.objects ≤ length s
      → (trim_valid p.objects (trim_at p.objects s) ≡ true) ↔ TrimBytesGivenBy p s
  trim-bytes-given s enough = (
    (λ h. given _ (trim_at p.objects s) h (trim-bytes p.objects s enough)),
    (λ g.
        let t : TrimTable = (tables g.payload.programme g.payload.known).trim in
        let h : trim_valid p.objects t ≡ true = given-valid _ g in
        let f = trim-facts p.objects t h in
        let tail : List ℕ = drop (trim_needed p.objects) s in
        let e : trim_at p.objects s ≡ t =
        ap (trim_at p.objects) (sym (take-append-drop (trim_needed p.objects) s))
        ∙ ap (λ (l : List ℕ). trim_at p.objects (l ++ tail)) (sym g.gives.1) ∙ trim-again p.objects t f.nine f.flags tail in
        rw e h),
  )
