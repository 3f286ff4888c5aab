-- What the extended element of an accepted payload has for a block: where a byte comes from nothing, it is 0.
use Rattle.std.specs.Prelude.{◌≡◌, refl, Bool, true, false, List, [], ◌∷◌, ◌++◌, ℕ, ◌+◌, ◌*◌, ◌^◌, ◌<◌, eqb, length, get_or, replicate}
use Rattle.std.proofs.Common.{sym, ap, ◌∙◌, subst, true≢false, arith}
use Rattle.std.proofs.lemmas.List.{length-replicate, get_or-replicate}
use Rattle.bits.specs.Language.{ok, pick, both, P, ◌>>=◌, run, bit, bits, bits_if, when, each, slice, number}
use Rattle.bits.specs.Bytes.{bit_lt}
use Rattle.bits.specs.Steps.{give_ok, field_ok}
use Rattle.bits.specs.Terms.{Ensures}
use Rattle.bits.specs.Ensures.{ensured, e-give, e-bind, e-any, e_if, e-unless}
use Rattle.oamd.specs.declared.Block.{Block}
use Rattle.oamd.specs.declared.Divergence.{Divergence}
use Rattle.oamd.specs.declared.Precise.{Precise}
use Rattle.oamd.specs.Programme.{set?}
use Rattle.oamd.specs.Reserved.{ObjectDivMode, ObjectDivCode, is_reserved}
use Rattle.oamd.specs.Extended.{obj_div_block, has_x, has_y, has_z, ext_prec_pos_block, no_divergence, no_precise, Extension, extended_object_element}
use Rattle.oamd.specs.Record.{divergence_bytes, precise_bytes}
use Rattle.sources.specs.declared.Field.{Field}
use Rattle.sources.specs.declared.Field.TheVariants.{ObjectDivergence, DivMode, DivTable, DivCode, Presence, PreciseX, PreciseY, PreciseZ}
use Rattle.sources.specs.declared.Source.{Source}
use Rattle.sources.specs.declared.Source.TheVariants.{ByField, ByNothing}
use Rattle.sources.specs.Places.{entry, arrival_here}
use Rattle.sources.specs.Sources.{divergence_sources, precise_sources}
use Rattle.bits.specs.Laws.{each_long}
use Rattle.sources.specs.Where.{bit_of, extended_path, divergence_present, precise_present, precise_flag}
use Rattle.sources.specs.Coded.{coded_value}
use Rattle.sources.specs.Given.{field_gives}
use Rattle.sources.specs.Lemmas.BySource.{listed, all, ◌▸◌, by-pick}
use Rattle.sources.specs.Lemmas.Meeting.{Meets, Met, met, line, at_entry}

-- ---- bytes 17 to 23

-- what is not sent is 0, by whether b_object_divergence was sent
pub record OfDivergence (sent : Bool) (d : Divergence) : Type 0 where
  pub used : sent ≡ false → d.used ≡ 0
  pub mode : set? d.used ≡ false → d.mode ≡ 0
  pub value : both (set? d.used) (eqb d.mode 0) ≡ false → eqb d.mode 2 ≡ false → d.value ≡ 0

pub record OfPrecise (p : Precise) : Type 0 where
  pub x : has_x p.presence ≡ false → p.x ≡ 0
  pub y : has_y p.presence ≡ false → p.y ≡ 0
  pub z : has_z p.presence ≡ false → p.z ≡ 0

-- and by whether ext_prec_pos_presence[] was
pub record Quiet (sent sent' : Bool) (d : Divergence) (p : Precise) : Type 0 where
  pub divergence : OfDivergence sent d
  pub presence : sent' ≡ false → p.presence ≡ 0
  pub precise : OfPrecise p

pub all_quiet : (sent sent' : Bool) → Quiet sent sent' no_divergence no_precise
all_quiet sent sent' = record {
  divergence = record { used = λ q. refl; mode = λ q. refl; value = λ q u. refl };
  presence = λ q. refl;
  precise = record { x = λ q. refl; y = λ q. refl; z = λ q. refl };
}

-- What holds of a field that gives its own number, and of 0 from nothing, holds of each of these bytes; Q gets a byte's number less 17, its source and its value.
pub by-extras : (Q : ℕ → Source → ℕ → Type 0) (b : Block) (sent sent' : Bool) (d : Divergence) (p : Precise) → Quiet sent sent' d p
    → ((k : ℕ) (f : Field) → ((v sign : ℕ) → field_gives f v sign ≡ v) → Q k (ByField f) (coded_value f b d p)) → ((k : ℕ) → Q k ByNothing 0)
    → (k : ℕ) → k < 7 → Q k (get_or (divergence_sources sent d ++ precise_sources sent' p) k ByNothing) (get_or (divergence_bytes d ++ precise_bytes p) k 0)
unfolding divergence_sources precise_sources
by-extras Q b sent sent' d p quiet named nothing = listed {n = 7}
    (if-sent 0 ObjectDivergence (λ v sign. refl) sent quiet.divergence.used
    ▸ if-sent 1 DivMode (λ v sign. refl) (set? d.used) quiet.divergence.mode
    ▸ by-pick (λ x. Q 2 x d.value) (both (set? d.used) (eqb d.mode 0)) (λ t. named 2 DivTable (λ v sign. refl))
    (λ t. if-sent 2 DivCode (λ v sign. refl) (eqb d.mode 2) (quiet.divergence.value t))
    ▸ if-sent 3 Presence (λ v sign. refl) sent' quiet.presence
    ▸ if-sent 4 PreciseX (λ v sign. refl) (has_x p.presence) quiet.precise.x
    ▸ if-sent 5 PreciseY (λ v sign. refl) (has_y p.presence) quiet.precise.y
    ▸ if-sent 6 PreciseZ (λ v sign. refl) (has_z p.presence) quiet.precise.z
    ▸ all)
  where
    if-sent : (k : ℕ) (f : Field) → ((v sign : ℕ) → field_gives f v sign ≡ v) → (t : Bool) → (t ≡ false → coded_value f b d p ≡ 0)
        → Q k (pick t (ByField f) ByNothing) (coded_value f b d p)
    if-sent k f own t h = by-pick (λ x. Q k x (coded_value f b d p)) t (λ e. named k f own) (λ e. subst (Q k ByNothing) (sym (h e)) (nothing k))

-- ---- the extended element

-- what its two clauses read, by whether the block carries anything
divergence-read : (carries : Bool) → Ensures (obj_div_block carries) (OfDivergence carries)
unfolding obj_div_block
divergence-read carries =
    e-bind _ _ _ (e_if carries 1 _ λ used l0 z0.
    e-bind _ _ _ (e-unless (set? used) 5 _ (is_reserved ObjectDivMode) _ λ mode l1 z1.
    e-bind _ _ _ (e_if (both (set? used) (eqb mode 0)) 2 _ λ table l2 z2.
    e-bind _ _ _ (e-unless (eqb mode 2) 5 _ (is_reserved ObjectDivCode) _ λ code l3 z3.
    e-give _ _ (record { used = λ q. sym (z0 q); mode = λ q. sym (z1 q); value = λ q u. let a = z2 q in let b = z3 u in omega arith })))))

precise-read : (carries : Bool) → Ensures (ext_prec_pos_block carries) OfPrecise
unfolding ext_prec_pos_block
precise-read carries =
    e-bind _ _ _ (e-any _ _ λ sent.
    e-bind _ _ _ (e-any _ _ λ presence.
    e-bind _ _ _ (e_if (has_x presence) 2 _ λ x l0 z0.
    e-bind _ _ _ (e_if (has_y presence) 2 _ λ y l1 z1.
    e-bind _ _ _ (e_if (has_z presence) 2 _ λ z l2 z2.
    e-give _ _ (record { x = λ q. sym (z0 q); y = λ q. sym (z1 q); z = λ q. sym (z2 q) }))))))

-- a flag that was read is the bit where its line is reached
pub flag-bit : {B : Type 0} {s : List ℕ} {way : List ℕ → List ℕ} {k : ℕ → P B} {v : B} {at e o to f mid : ℕ} → Meets s way (bits 1 >>= k) v at e o to
    → run (bits 1) (bit s) at e o ≡ ok f mid → bit s (bit_of s (way (0 ∷ []))) ≡ f
unfolding slice number
flag-bit {s = s} {way} {k} {at = at} {e} {o} m r =
    let h = (field_ok 1 number (bit s) at e o r).1 in
    rw (m.comes 0 [] ∙ arrival_here (bits 1) k (bit s) at e o) ((let z : bit s at * 2 ^ 0 + 0 ≡ bit s at = omega arith in sym z) ∙ h)

-- a loop over what each block carries, or blank entries in its place
module _ {A : Type 0} {s : List ℕ} {way : List ℕ → List ℕ} (on : Bool) (f : Bool → P A) (blank : A) (carry : List Bool) {vs : List A}
    (m : Met s way (when on (each f carry) (replicate (length carry) blank)) vs) where
  pub entry-sent : on ≡ true → (k : ℕ) → k < length carry → Met s (λ l. way (entry k ++ l)) (f (get_or carry k false)) (get_or vs k blank)
  entry-sent e k l = at_entry f carry (rw e at m).meets k l false blank

  entry-blank : on ≡ false → (k : ℕ) → k < length carry → get_or vs k blank ≡ blank
  entry-blank e k l =
      let x = rw e at m in
      ap (λ (l : List A). get_or l k blank) (sym (give_ok _ (bit s) x.at x.end x.past x.meets.ran).0) ∙ get_or-replicate (length carry) k blank blank l

  entries_long : length vs ≡ length carry
  entries_long = go on m
    where
      go : (t : Bool) → Met s way (when t (each f carry) (replicate (length carry) blank)) vs → length vs ≡ length carry
      go true x = each_long f carry (bit s) x.at x.end x.past x.meets.ran
      go false x = ap length (sym (give_ok _ (bit s) x.at x.end x.past x.meets.ran).0) ∙ length-replicate (length carry) blank

  -- what the clause ensures, and the blank has
  entry-holds : (R : Bool → A → Type 0) → ((c : Bool) → Ensures (f c) (R c)) → ((c : Bool) → R c blank) → (k : ℕ) → k < length carry → R (get_or carry k false) (get_or vs k blank)
  entry-holds R ensures empty k l = go on refl
    where
      go : (t : Bool) → on ≡ t → R (get_or carry k false) (get_or vs k blank)
      go true e =
          let x = entry-sent e k l in
          ensured _ _ (ensures (get_or carry k false)) (bit s) (bit_lt s) x.at x.end x.past x.meets.ran
      go false e = rw (entry-blank e k l) (empty (get_or carry k false))

-- its lines: two flags, and behind each a loop
pub record Lines (s : List ℕ) (carry : List Bool) (x : Extension) : Type 0 where
  pub flag : ℕ
  pub is : bit s (bit_of s (extended_path s ++ divergence_present)) ≡ flag
  pub here : Met s (λ l. extended_path s ++ (1 ∷ l)) (when (set? flag) (each obj_div_block carry) (replicate (length carry) no_divergence)) x.divergence
  pub flag' : ℕ
  pub is' : bit s (bit_of s (extended_path s ++ precise_present)) ≡ flag'
  pub here' : Met s (λ l. extended_path s ++ (3 ∷ l)) (when (set? flag') (each ext_prec_pos_block carry) (replicate (length carry) no_precise)) x.precise

pub lines : {s : List ℕ} (carry : List Bool) (x : Extension) → Met s (λ l. extended_path s ++ l) (extended_object_element carry) x → Lines s carry x
unfolding extended_object_element
lines {s} carry x m =
    let a = line m.meets in
    let b = line a.rest in
    let c = line b.rest in
    let d = line c.rest in
    subst (Lines s carry) (give_ok _ (bit s) d.mid m.end m.past d.rest.ran).0 (record {
      flag = a.gives;
      is = flag-bit m.meets a.here.ran;
      here = met b.here;
      flag' = c.gives;
      is' = flag-bit b.rest c.here.ran;
      here' = met d.here;
    })

-- ---- its entries

-- a field that is not sent is 0
unsent : (t : Bool) (w : ℕ) (s : List ℕ) (at e o : ℕ) {v to : ℕ} → t ≡ false → run (bits_if t w) (bit s) at e o ≡ ok v to → v ≡ 0
unsent true w s at e o q r = absurd (true≢false q)
unsent false w s at e o q r = sym (give_ok 0 (bit s) at e o r).0

-- ext_prec_pos_presence[] is 0 where b_ext_prec_pos is not sent, or not set
presence-read : {s : List ℕ} {way : List ℕ → List ℕ} (c : Bool) {p : Precise} → Met s way (ext_prec_pos_block c) p
    → both c (set? (bit s (bit_of s (way (0 ∷ []))))) ≡ false → p.presence ≡ 0
unfolding ext_prec_pos_block
presence-read {s} {way} c {p} m h =
    let a = line m.meets in
    let b = line a.rest in
    let x = line b.rest in
    let y = line x.rest in
    let z = line y.rest in
    let is = ap (λ (p : Precise). p.presence) (give_ok _ (bit s) z.mid m.end m.past z.rest.ran).0 in
    sym is ∙ unsent _ 3 s a.mid m.end m.past (clear c m a.here.ran h) b.here.ran
  where
    clear : (c : Bool) (m : Met s way (ext_prec_pos_block c) p) {f mid : ℕ} → run (bits_if c 1) (bit s) m.at m.end m.past ≡ ok f mid
        → both c (set? (bit s (bit_of s (way (0 ∷ []))))) ≡ false → set? f ≡ false
    clear true m r h = ap set? (sym (flag-bit m.meets r)) ∙ h
    clear false m r h = ap set? (unsent false 1 s m.at m.end m.past refl r)

both_true : (c : Bool) → both c true ≡ c
both_true true = refl
both_true false = refl

-- one of two tests fails
by_both : {X : Type 0} (c t : Bool) → both c t ≡ false → (t ≡ false → X) → (t ≡ true → c ≡ false → X) → X
by_both c false h f g = f refl
by_both true true h f g = absurd (true≢false h)
by_both false true h f g = g refl refl

-- entry k, of a block that carries something if c says so
pub quiet_of : {s : List ℕ} (carry : List Bool) (x : Extension) → Lines s carry x → (k : ℕ) → k < length carry → (c : Bool) → c ≡ get_or carry k false
    → Quiet (both c (set? (bit s (bit_of s (extended_path s ++ divergence_present)))))
    (both (both c (set? (bit s (bit_of s (extended_path s ++ precise_present))))) (set? (bit s (bit_of s (extended_path s ++ (3 ∷ (entry k ++ precise_flag)))))))
    (get_or x.divergence k no_divergence) (get_or x.precise k no_precise)
quiet_of {s} carry x t k l c same =
    let d = entry-holds (set? t.flag) obj_div_block no_divergence carry t.here OfDivergence divergence-read (λ c. (all_quiet c c).divergence) k l in
    let p = entry-holds (set? t.flag') ext_prec_pos_block no_precise carry t.here' (λ c. OfPrecise) precise-read (λ c. (all_quiet c c).precise) k l in
    record {
      divergence = record {
        used = λ q.
            by_both c (set? t.flag) (rw t.is at q)
            (λ e. ap (λ (d : Divergence). d.used) (entry-blank (set? t.flag) obj_div_block no_divergence carry t.here e k l)) (λ e u. d.used (sym same ∙ u));
        mode = d.mode;
        value = d.value;
      };
      presence = λ q. go (set? t.flag') refl (rw t.is' at q);
      precise = p;
    }
  where
    go : (u : Bool) → set? t.flag' ≡ u → both (both c u) (set? (bit s (bit_of s (extended_path s ++ (3 ∷ (entry k ++ precise_flag)))))) ≡ false
        → (get_or x.precise k no_precise).presence ≡ 0
    go false e q = ap (λ (p : Precise). p.presence) (entry-blank (set? t.flag') ext_prec_pos_block no_precise carry t.here' e k l)
    go true e q = presence-read _ (entry-sent (set? t.flag') ext_prec_pos_block no_precise carry t.here' e k l) (rw (← same) (rw (both_true c) at q))

-- as many entries of each sort as there are blocks
pub lines_long : {s : List ℕ} (carry : List Bool) (x : Extension) → Lines s carry x → (length x.divergence ≡ length carry) × (length x.precise ≡ length carry)
lines_long carry x t =
    (entries_long (set? t.flag) obj_div_block no_divergence carry t.here, entries_long (set? t.flag') ext_prec_pos_block no_precise carry t.here')
