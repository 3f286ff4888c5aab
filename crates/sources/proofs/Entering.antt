-- The loop over elements, up to the one that is looked for. Assumes nothing.
use mathlib.Core.Path.{◌≡◌, refl, sym, ap, ◌∙◌, subst₂}
use mathlib.Core.Bool.{Bool, true, false}
use mathlib.Core.List.{List}
use Prim.Native.Nat.{ℕ, ◌+◌, ◌*◌, ◌≤◌, ◌<◌}
use native.Mathlib.Omega.{arith}
use lib.ListN.{length}
use Rattle.std.specs.Prelude.{Some, None}
use Rattle.bits.specs.declared.Cur.{Cur}
use Rattle.bits.specs.declared.Limit.{Limit}
use Rattle.bits.specs.Language.{bit}
use Rattle.bits.specs.View.{Gave}
use Rattle.oamd.specs.declared.Frame.{Frame}
use Rattle.oamd.specs.Tables.{most_bytes}
use Rattle.oamd.specs.Element.{there, frame}
use Rattle.demands.specs.Lemmas.Frame.{body_at, end_at}
use Rattle.reader.specs.Steps.{whole_of}
use Rattle.sources.specs.declared.Inside.{Inside}
use Rattle.sources.specs.Lemmas.Walking.{one_value, one_place, stepped}
use Rattle.sources.specs.Lemmas.Seeking.{is_wanted, Seeking, Facing, facing, seek-on, seek_none, seek-object, seek-extended, FoundOf}
use Rattle.sources.specs.Walks.{wanted_by, inside_at, Begun, Sought}
use Rattle.sources.proofs.Framing.{wanted_by_lem}

-- the cursor stands before element i of n
pub record Between (extended : Bool) (s : List ℕ) (alternate n : ℕ) (cur : Cur) (i : ℕ) : Type 0 where
  pub within : i ≤ n
  pub good : cur.no ≡ 0
  pub seeking : Seeking extended s alternate n i cur.at.0

pub between_start : {extended : Bool} {s : List ℕ} {alternate n : ℕ} {c : Cur} {l : Limit} → Begun extended s alternate n c l → Between extended s alternate n c 0
between_start b = record { within = omega arith; good = b.good; seeking = b.seeking }

-- the element that faces is the one
found_at : (extended : Bool) {s : List ℕ} {alternate n i at : ℕ} (x : Seeking extended s alternate n i at) (f : Facing x) → is_wanted extended f.frame.kind ≡ true → length s ≤ most_bytes
    → {body end : ℕ} → body ≡ body_at at alternate f.frame.size → end ≡ end_at at f.frame.size → Sought extended s (Some (inside_at body end))
found_at false {s} {alternate} {at = at} x f match short b e =
    let y = seek-object x f match in
    record {
      told = sym (ap there y.is);
      entered = record {
        good = refl;
        inner = refl;
        within = omega (arith, f.frame.room);
        near = omega (arith, f.frame.fits);
        found = subst₂ (FoundOf false s) (sym b) (sym e) y;
      };
    }
found_at true {s} {alternate} {at = at} x f match short b e =
    let y = seek-extended x f match in
    record {
      told = sym (ap there y.is);
      entered = record {
        good = refl;
        inner = refl;
        within = omega (arith, f.frame.room);
        near = omega (arith, f.frame.fits);
        found = subst₂ (FoundOf true s) (sym b) (sym e) y;
      };
    }

-- there is none
pub not_found : {extended : Bool} {s : List ℕ} {alternate n : ℕ} {cur : Cur} {i : ℕ} → Between extended s alternate n cur i → n ≤ i → Sought extended s None
not_found x l = record { told = sym (seek_none x.seeking l); entered = tt }

module _ {extended : Bool} {s : List ℕ} {alternate n : ℕ} {cur : Cur} {i : ℕ} (x : Between extended s alternate n cur i) (l : i < n) {limit : Limit} (whole : limit ≡ whole_of s)
    {f : Frame} {d : Cur} (read : Gave (frame alternate) (bit s) cur limit f d) where
  abbrev here : Facing x.seeking
  here = facing x.seeking l

  -- the frame there is the one that was read
  pub record Read : Type 0 where
    pub good : d.no ≡ 0
    pub same : f ≡ record { kind = here.frame.kind; size = here.frame.size }
    pub end : d.at.0 ≡ end_at cur.at.0 here.frame.size

  pub was_read : Read
  was_read =
      let y = stepped x.good here.frame.read (rw whole at read.reads) in
      record { good = y.good; same = one_value y.ran here.frame.read; end = one_place y.ran here.frame.read }

  -- it is another one
  pub passed_over : wanted_by extended f.kind ≡ false → Between extended s alternate n d (i + 1)
  passed_over no-match =
      let y = was_read in
      let kind-is : is_wanted extended here.frame.kind ≡ false =
      ap (λ (f : Frame). is_wanted extended f.kind) (sym y.same) ∙ sym (wanted_by_lem extended f.kind) ∙ no-match in
      record { within = omega arith; good = y.good; seeking = rw y.end (seek-on x.seeking here kind-is) }

  -- it is the one
  pub entered : length s ≤ most_bytes → wanted_by extended f.kind ≡ true → {at : ℕ} → at ≡ body_at cur.at.0 alternate f.size → {r : Inside}
      → r ≡ inside_at at d.at.0 → Sought extended s (Some r)
  entered short match {at} at-is {r} r-is =
      let y = was_read in
      let kind-is : is_wanted extended here.frame.kind ≡ true =
      ap (λ (f : Frame). is_wanted extended f.kind) (sym y.same) ∙ sym (wanted_by_lem extended f.kind) ∙ match in
      let place : at ≡ body_at cur.at.0 alternate here.frame.size = at-is ∙ ap (λ (f : Frame). body_at cur.at.0 alternate f.size) y.same in
      rw r-is (found_at extended x.seeking here kind-is short place y.end)

  -- its fields begin in the payload
  pub body_near : length s ≤ most_bytes → body_at cur.at.0 alternate f.size ≤ 8 * most_bytes
  body_near short =
      let same = ap (λ (f : Frame). body_at cur.at.0 alternate f.size) was_read.same in
      omega (arith, here.frame.room, here.frame.fits)
