-- How many records an accepted payload has, one for each object and block, and how long its trim table is.
use Rattle.std.specs.Prelude.{◌≡◌, refl, Bool, true, false, not, List, [], ◌∷◌, ℕ, zero, suc, ◌*◌, eqb, length, replicate}
use Rattle.std.proofs.Common.{sym, ap, ◌∙◌, subst, arith, zero-mul, suc-mul, mul-zero, length-append}
use Rattle.std.proofs.Math.Option.{Option, none, some}
use Rattle.std.proofs.lemmas.List.{length-replicate}
use Rattle.bits.specs.Language.{ok, Bits, P, give, ◌>>=◌, run, bits, when, each}
use Rattle.bits.specs.Steps.{value, and_then_ok, bind_ok, give_ok}
use Rattle.bits.specs.Laws.{each_long, length_from}
use Rattle.bits.specs.Terms.{Every}
use Rattle.oamd.specs.declared.Block.{Block}
use Rattle.oamd.specs.declared.Kind.{Kind}
use Rattle.oamd.specs.declared.Kind.TheVariants.{Unknown, Object, Trim, Extended}
use Rattle.oamd.specs.declared.Programme.{Programme}
use Rattle.oamd.specs.declared.Shares.{Shares}
use Rattle.oamd.specs.declared.Scene.{Scene}
use Rattle.oamd.specs.declared.Divergence.{Divergence}
use Rattle.oamd.specs.declared.Precise.{Precise}
use Rattle.oamd.specs.Programme.{set?}
use Rattle.oamd.specs.Tables.{record_stride, trim_configs}
use Rattle.oamd.specs.Timing.{timing_of}
use Rattle.oamd.specs.ObjectElement.{object_data, ObjectElement, object_element}
use Rattle.oamd.specs.Extended.{obj_div_block, ext_prec_pos_block, no_divergence, no_precise, Extension, extended_object_element}
use Rattle.oamd.specs.Trim.{trim_config, no_config, TrimTable, trim_element, no_trim, trim_of}
use Rattle.oamd.specs.Meaning.{resolve, first_gain, behind_first, nothing_before, scenes_from, scenes_of, all_scenes}
use Rattle.oamd.specs.Record.{all_carry, plain_records, extended_records}
use Rattle.oamd.specs.Time.{time_of}
use Rattle.oamd.specs.Lengths.{length-timed}
use Rattle.oamd.specs.Element.{back_to_id, Known, there, scenes, is_second, is_early, fields, State, pass_over, oa_element, oa_element_md, elements}
use Rattle.oamd.specs.Payload.{Payload, object_audio_metadata_payload, timing, records, tables}
use Rattle.oamd.specs.Answer.{laid_records, needed}
use Rattle.demands.specs.Terms.{tables_of}
use Rattle.demands.specs.Lemmas.Frame.{body_at, end_at, frame-of}
use Rattle.demands.specs.Lemmas.Elements.{by_kind, fields_of}

-- ---- lists that a loop gives

each_all : {X A : Type 0} (f : X → P A) (Q : A → Type 0) → ((x : X) (b : Bits) (at e o : ℕ) (v : A) (to : ℕ) → run (f x) b at e o ≡ ok v to → Q v)
    → (xs : List X) (b : Bits) (at e o : ℕ) {v : List A} {to : ℕ} → run (each f xs) b at e o ≡ ok v to → Every Q v
unfolding each
each_all f Q one [] b at e o {v} h = subst (Every Q) (give_ok [] b at e o h).0 tt
each_all f Q one (x ∷ xs) b at e o {v} h =
    bind_ok (f x) (λ a. each f xs >>= λ rest. give (a ∷ rest)) b at e o h λ a mid r s.
    bind_ok (each f xs) (λ rest. give (a ∷ rest)) b mid e o s λ rest mid' t u.
    subst (Every Q) (give_ok (a ∷ rest) b mid' e o u).0 (one x b at e o a mid r, each_all f Q one xs b mid e o t)

-- n entries, read or blank
when_long : {X A : Type 0} (t : Bool) (f : X → P A) (blank : A) (xs : List X) (n : ℕ) (b : Bits) (at e o : ℕ) {v : List A} {to : ℕ} → length xs ≡ n
    → run (when t (each f xs) (replicate n blank)) b at e o ≡ ok v to → length v ≡ n
when_long true f blank xs n b at e o l h = each_long f xs b at e o h ∙ l
when_long false f blank xs n b at e o l h = ap length (sym (give_ok _ b at e o h).0) ∙ length-replicate n blank

-- ---- scenes

length-scenes : (before : Scene) (above : List Scene) (o : List Block) → length (scenes_from before above o) ≡ length o
unfolding scenes_from
length-scenes before above [] = refl
length-scenes before above (b ∷ bs) = ap suc (length-scenes (resolve before (first_gain above) b) (behind_first above) bs)

length_all : (k : ℕ) (above : List Scene) (os : List (List Block)) → Every (λ o. length o ≡ k) os → length (all_scenes above os) ≡ length os * k
unfolding all_scenes scenes_of
length_all k above [] h = sym (zero-mul k)
length_all k above (o ∷ os) h =
    let mine = length-scenes nothing_before above o in
    let rest = length_all k (scenes_of above o) os h.1 in
    let both = length-append (scenes_of above o) (all_scenes (scenes_of above o) os) in
    omega (arith, suc-mul (length os) k, h.0)

-- as many scenes as objects and blocks
Whole : Programme → ObjectElement → Type 0
Whole p e = length (all_scenes [] e.objects) ≡ p.objects * length e.timing.blocks

object-whole : (p : Programme) (n : ℕ) (sh : Shares) (b : Bits) (at e o : ℕ) {x : ObjectElement} {to : ℕ} → p.objects ≡ n
    → run (object_element n sh) b at e o ≡ ok x to → Whole p x
unfolding object_element object_data Whole
object-whole p n sh b at e o {x} {to} same h =
    bind_ok _ _ b at e o h λ t p1 h1 h.
    bind_ok _ _ b p1 e o h λ flag p2 h2 h.
    bind_ok _ _ b p2 e o h λ reserved p3 h3 h.
    bind_ok _ _ b p3 e o h λ objects p4 h4 h.
    let z = (give_ok _ b p4 e o h).0 in
    let k : ℕ = length t.blocks in
    let one = each_all _ (λ o. length o ≡ k) (λ j b at e o v to r. each_long _ _ b at e o r ∙ length_from 0 k) _ b p3 e o h4 in
    let many = each_long _ _ b p3 e o h4 ∙ length_from 0 n in
    subst (λ (y : ObjectElement). length (all_scenes [] y.objects) ≡ p.objects * length y.timing.blocks) z
    (length_all k [] objects one ∙ ap (λ (m : ℕ). m * k) (many ∙ sym same))

-- ---- extensions

length-carry : (ss : List Scene) → length (all_carry ss) ≡ length ss
length-carry [] = refl
length-carry (s ∷ ss) = ap suc (length-carry ss)

-- as many entries as scenes
Spread : ObjectElement → Extension → Type 0
Spread e x = (length x.divergence ≡ length (all_scenes [] e.objects)) × (length x.precise ≡ length (all_scenes [] e.objects))

extended_long : (carries : List Bool) (b : Bits) (at e o : ℕ) {x : Extension} {to : ℕ} → run (extended_object_element carries) b at e o ≡ ok x to
    → (length x.divergence ≡ length carries) × (length x.precise ≡ length carries)
unfolding extended_object_element
extended_long carries b at e o {x} h =
    bind_ok _ _ b at e o h λ f1 p1 h1 h.
    bind_ok _ _ b p1 e o h λ ds p2 h2 h.
    bind_ok _ _ b p2 e o h λ f2 p3 h3 h.
    bind_ok _ _ b p3 e o h λ ps p4 h4 h.
    let z = (give_ok _ b p4 e o h).0 in
    subst (λ (y : Extension). (length y.divergence ≡ length carries) × (length y.precise ≡ length carries)) z
    (when_long (set? f1) obj_div_block no_divergence carries _ b p1 e o refl h2, when_long (set? f2) ext_prec_pos_block no_precise carries _ b p3 e o refl h4)

-- ---- trim tables

-- nine configurations, and a flag for each object
Flagged : Programme → TrimTable → Type 0
Flagged p t = (length t.configs ≡ trim_configs) × (length t.disabled ≡ p.objects)

trim-flagged : (p : Programme) (n : ℕ) (b : Bits) (at e o : ℕ) {x : TrimTable} {to : ℕ} → p.objects ≡ n
    → run (trim_element n) b at e o ≡ ok x to → Flagged p x
unfolding trim_element Flagged
trim-flagged p n b at e o same h =
    bind_ok _ _ b at e o h λ warp p1 h1 h.
    bind_ok _ _ b p1 e o h λ reserved p2 h2 h.
    bind_ok _ _ b p2 e o h λ mode p3 h3 h.
    bind_ok _ _ b p3 e o h λ configs p4 h4 h.
    bind_ok _ _ b p4 e o h λ flag p5 h5 h.
    bind_ok _ _ b p5 e o h λ disabled p6 h6 h.
    subst (λ (y : TrimTable). (length y.configs ≡ trim_configs) × (length y.disabled ≡ p.objects)) (give_ok _ b p6 e o h).0 (
      when_long (eqb mode 2) (λ cfg. trim_config) no_config _ trim_configs b p3 e o (length_from 0 trim_configs) h4,
      when_long (set? flag) (λ obj. bits 1) 0 _ n b p5 e o (length_from 0 n) h6 ∙ sym same,
    )

none-flagged : (p : Programme) → Flagged p (no_trim p.objects)
unfolding Flagged
none-flagged p = (length-replicate trim_configs no_config, length-replicate {A = ℕ} p.objects 0)

-- ---- the known elements

-- what is known is whole; an extension stands only beside an object element
Paired : Programme → Option ObjectElement → Option Extension → Type 0
Paired p none none = Unit {0}
Paired p none (some x) = ⊥
Paired p (some e) none = Whole p e
Paired p (some e) (some x) = Whole p e × Spread e x

Sized : Programme → Known → Type 0
Sized p known = Paired p known.object known.extended × Flagged p (trim_of p.objects known.trim)

object-paired : (p : Programme) (x : ObjectElement) (object : Option ObjectElement) (extended : Option Extension) → there object ≡ false → Whole p x
    → Paired p object extended → Paired p (some x) extended
unfolding Paired
object-paired p x (some y) extended first w s = let z : ◌≡◌ {A = ℕ} 0 1 = cc in absurd (omega arith)
object-paired p x none (some y) first w s = absurd s
object-paired p x none none first w s = w

extended-paired : (p : Programme) (x : Extension) (object : Option ObjectElement) (extended : Option Extension) → there extended ≡ false
    → not (there object) ≡ false
    → (length x.divergence ≡ length (all_carry (scenes object))) × (length x.precise ≡ length (all_carry (scenes object)))
    → Paired p object extended → Paired p object (some x)
unfolding Paired Spread scenes
extended-paired p x none extended first timely l s = let z : ◌≡◌ {A = ℕ} 0 1 = cc in absurd (omega arith)
extended-paired p x (some e) (some y) first timely l s = let z : ◌≡◌ {A = ℕ} 0 1 = cc in absurd (omega arith)
extended-paired p x (some e) none first timely l s =
    let c = length-carry (all_scenes [] e.objects) in
    (s, (l.0 ∙ c, l.1 ∙ c))

fields-sized : (p : Programme) (k : Kind) (known : Known) (b : Bits) (at e o : ℕ) {known' : Known} {to : ℕ} → is_second k known ≡ false
    → is_early k known ≡ false → run (fields p k known) b at e o ≡ ok known' to → Sized p known → Sized p known'
unfolding fields Sized trim_of
fields-sized p Unknown known b at e o first timely h s = subst (Sized p) (give_ok _ b at e o h).0 s
fields-sized p Object known b at e o first timely h s =
    bind_ok _ _ b at e o h λ x p1 h1 h.
    subst (Sized p) (give_ok _ b p1 e o h).0 (object-paired p x known.object known.extended first (object-whole p _ _ b at e o refl h1) s.0, s.1)
fields-sized p Trim known b at e o first timely h s =
    bind_ok _ _ b at e o h λ x p1 h1 h.
    subst (Sized p) (give_ok _ b p1 e o h).0 (s.0, trim-flagged p _ b at e o refl h1)
fields-sized p Extended known b at e o first timely h s =
    bind_ok _ _ b at e o h λ x p1 h1 h.
    subst (Sized p) (give_ok _ b p1 e o h).0 (extended-paired p x known.object known.extended first timely (extended_long _ b at e o h1) s.0, s.1)

inside-sized : (p : Programme) (back : ℕ) (st : State) (k : Kind) (b : Bits) (at e o : ℕ) {st' : State} {to : ℕ}
    → run (oa_element p back st k) b at e o ≡ ok st' to → Sized p st.known → Sized p st'.known
unfolding pass_over
inside-sized p back st k b at e o {st'} {to} h s =
    by_kind p back st (λ k x. run x b at e o ≡ ok st' to → Sized p st'.known)
    (λ h. subst (λ (y : State). Sized p y.known) (give_ok _ b at e o h).0 s)
    (λ k known h.
    let x = fields_of p back st k b at e o h in
    fields-sized p k st.known b at e o x.first x.timely x.ran s) k h

element-sized : (p : Programme) (alternate : ℕ) (st : State) (b : Bits) (at e o : ℕ) {st' : State} {to : ℕ}
    → run (oa_element_md p alternate st) b at e o ≡ ok st' to → Sized p st.known → Sized p st'.known
unfolding oa_element_md
element-sized p alternate st b at e o h s =
    let f = frame-of alternate _ b at e o h in
    let t = and_then_ok _ _ (sym (f.same _) ∙ h) in
    subst (λ (y : State). Sized p y.known) (value t.3)
    (inside-sized p (back_to_id alternate f.size) st f.kind b (body_at at alternate f.size) (end_at at f.size) _ t.2 s)

elements-sized : (p : Programme) (alternate n : ℕ) (st : State) (b : Bits) (at e o : ℕ) {st' : State} {to : ℕ}
    → run (elements p alternate n st) b at e o ≡ ok st' to → Sized p st.known → Sized p st'.known
unfolding elements
elements-sized p alternate zero st b at e o h s = subst (λ (y : State). Sized p y.known) (give_ok _ b at e o h).0 s
elements-sized p alternate (suc n) st b at e o h s =
    bind_ok _ _ b at e o h λ mid p1 h1 h.
    elements-sized p alternate n mid b p1 e o h (element-sized p alternate st b at e o h1 s)

payload-sized : (b : Bits) (at e o : ℕ) {q : Payload} {to : ℕ} → run object_audio_metadata_payload b at e o ≡ ok q to → Sized q.programme q.known
unfolding object_audio_metadata_payload Sized Paired trim_of
payload-sized b at e o h =
    bind_ok _ _ b at e o h λ hd p1 h1 h.
    bind_ok _ _ b p1 e o h λ n p2 h2 h.
    bind_ok _ _ b p2 e o h λ st p3 h3 h.
    subst (λ (q : Payload). Sized q.programme q.known) (give_ok _ b p3 e o h).0
    (elements-sized hd.programme hd.alternate n _ b p2 e o h3 (tt, none-flagged hd.programme))

-- ---- the records

length-plain : (ss : List Scene) → length (plain_records ss) ≡ length ss
unfolding plain_records
length-plain [] = refl
length-plain (s ∷ ss) = ap suc (length-plain ss)

length-extended : (ss : List Scene) (ds : List Divergence) (ps : List Precise) → length ds ≡ length ss → length ps ≡ length ss
    → length (extended_records ss ds ps) ≡ length ss
unfolding extended_records
length-extended [] ds ps d p = refl
length-extended (s ∷ ss) [] ps d p = absurd (omega arith)
length-extended (s ∷ ss) (x ∷ ds) [] d p = absurd (omega arith)
length-extended (s ∷ ss) (x ∷ ds) (y ∷ ps) d p = ap suc (length-extended ss ds ps (omega arith) (omega arith))

records-sized : (p : Programme) (object : Option ObjectElement) (extended : Option Extension) → Paired p object extended
    → length (records (scenes object) extended) ≡ p.objects * (timing object).blocks
unfolding Paired Whole Spread records scenes timing timing_of
records-sized p none none s = length-plain [] ∙ sym (mul-zero p.objects)
records-sized p none (some x) s = absurd s
records-sized p (some e) none s = length-plain _ ∙ s
records-sized p (some e) (some x) s = length-extended _ _ _ s.1.0 s.1.1 ∙ s.0

-- the bytes of an accepted payload's records are as many as are needed
pub length-needed : (frame : ℕ) (b : Bits) (at e o : ℕ) {q : Payload} {to : ℕ} → run object_audio_metadata_payload b at e o ≡ ok q to
    → length (laid_records frame (tables_of q)) ≡ needed (tables_of q)
unfolding tables Sized
length-needed frame b at e o {q} h =
    length-timed (time_of frame (tables_of q).timing) 0 (tables_of q).records
    ∙ ap (λ (n : ℕ). record_stride * n) (records-sized q.programme q.known.object q.known.extended (payload-sized b at e o h).0)

-- ---- the trim table

-- that of an accepted payload has nine configurations and a flag for each object
pub trim-sized : (b : Bits) (at e o : ℕ) {q : Payload} {to : ℕ} → run object_audio_metadata_payload b at e o ≡ ok q to
    → (length (tables_of q).trim.configs ≡ trim_configs) × (length (tables_of q).trim.disabled ≡ q.programme.objects)
unfolding tables Sized Flagged
trim-sized b at e o h = (payload-sized b at e o h).1
