-- No value that an accepted payload carries for a field is reserved.
use Rattle.std.specs.Prelude.{◌≡◌, refl, Bool, true, false, not, List, [], ◌∷◌, ◌++◌, ℕ, zero, suc, ◌+◌, ◌*◌, eqb, length, replicate}
use Rattle.std.proofs.Common.{sym, ◌∙◌, subst, inl, inr, arith, eqb-true}
use Rattle.std.proofs.lemmas.Bool.{false≢true}
use Rattle.std.proofs.Math.Option.{Option, some}
use Rattle.bits.specs.Language.{ok, both, P, each, from, when, bit, past_payload}
use Rattle.bits.specs.Bytes.{bit_lt}
use Rattle.bits.specs.Ensures.{ensured, e-give, e-bind, e-any, e-then, e_when, e-pass, e_if, e-unless, e-within, e-each}
use Rattle.bits.specs.Terms.{Ensures, All}
use Rattle.oamd.specs.declared.Kind.{Kind}
use Rattle.oamd.specs.declared.Kind.TheVariants.{Unknown, Object, Trim, Extended}
use Rattle.oamd.specs.declared.Programme.{Programme}
use Rattle.oamd.specs.declared.Shares.{Shares}
use Rattle.oamd.specs.declared.Status.{Status}
use Rattle.oamd.specs.Reserved.{Field, IntermediateSpatialFormatIdx, SampleOffsetCode, ZoneConstraintsIdx, ObjectSizeIdx, WarpMode, GlobalTrimMode, TrimSurround, TrimHeight}
use Rattle.oamd.specs.Reserved.{ObjectDivMode, ObjectDivCode, width_of, is_reserved, unreserved_if}
use Rattle.oamd.specs.Tables.{trim_configs}
use Rattle.oamd.specs.Programme.{set?, has_isf, agrees, class_of, intermediate_spatial_format, program_assignment}
use Rattle.oamd.specs.Timing.{sample_offset, md_update_info}
use Rattle.oamd.specs.Block.{has_zone, has_size, zone, extent, object_render_info, object_info_block}
use Rattle.oamd.specs.ObjectElement.{object_data, ObjectElement, object_element}
use Rattle.oamd.specs.Extended.{obj_div_block, no_divergence, Extension, extended_object_element}
use Rattle.oamd.specs.Trim.{has_surround, has_height, trim_config, no_config, TrimTable, trim_element}
use Rattle.oamd.specs.Element.{Known, nothing, fields, State, pass_over, read_known, oa_element, oa_element_md, framed, elements, kind}
use Rattle.oamd.specs.Payload.{header, Payload, object_audio_metadata_payload}
use Rattle.demands.specs.Terms.{parsed}
use Rattle.demands.specs.Stops.{OneOf, reserved_values, only_if, of_each, of_any, zones_of, sizes_of, surrounds_of, heights_of, modes_of, codes_of, carried}
use Rattle.demands.specs.Lemmas.Codes.{by-test}
use Rattle.demands.specs.Lemmas.Elements.{by_kind}

-- none of these values is reserved in the field
abbrev pub Clean : Field → List ℕ → Type 0
Clean f vs = (v : ℕ) → OneOf v vs → OneOf v (reserved_values f) → ⊥

clean_one : (f : Field) (v : ℕ) → is_reserved f v ≡ false → Clean f (v ∷ [])
clean_one f v h u (inl i) r = false≢true (sym h ∙ by-test f v (subst (λ (n : ℕ). OneOf n (reserved_values f)) i r))
clean_one f v h u (inr i) r = elim i [ ]

clean_if : (f : Field) (on : Bool) (v : ℕ) → (on ≡ true → is_reserved f v ≡ false) → Clean f (only_if on v)
clean_if f true v h = clean_one f v (h refl)
clean_if f false v h = λ u x r. x

clean-append : (f : Field) (xs ys : List ℕ) → Clean f xs → Clean f ys → Clean f (xs ++ ys)
clean-append f [] ys c d v x r = d v x r
clean-append f (x ∷ xs) ys c d v (inl i) r = c v (inl i) r
clean-append f (x ∷ xs) ys c d v (inr i) r = clean-append f xs ys (λ u j. c u (inr j)) d v i r

-- those of each value of a loop
clean-each : {X A : Type 0} (f : Field) (g : A → List ℕ) (R : X → A → Type 0) → ((x : X) (a : A) → R x a → Clean f (g a)) → (xs : List X) (vs : List A)
    → All R xs vs → Clean f (of_each g vs)
clean-each f g R h [] [] r = λ v x y. x
clean-each f g R h [] (a ∷ vs) r = absurd r
clean-each f g R h (x ∷ xs) [] r = absurd r
clean-each f g R h (x ∷ xs) (a ∷ vs) r = clean-append f (g a) (of_each g vs) (h x a r.0) (clean-each f g R h xs vs r.1)

-- of entries with none
clean-blank : {A : Type 0} (f : Field) (g : A → List ℕ) (a : A) → g a ≡ [] → (n : ℕ) → Clean f (of_each g (replicate n a))
clean-blank f g a h zero = λ v x y. x
clean-blank f g a h (suc n) =
    clean-append f (g a) (of_each g (replicate n a)) (λ v x y. rw h at x) (clean-blank f g a h n)

-- a field that was not refused
e-clean : (f : Field) (on : Bool) (Q : ℕ → Type 0) → ((v : ℕ) → Clean f (only_if on v) → Q v) → Ensures (unreserved_if on f) Q
e-clean f on Q h = e-unless on 5 (width_of f) (is_reserved f) Q (λ v l z. h v (clean_if f on v (λ q. (l q).1)))

-- a loop whose entries carry values for two fields
each-clean : {X A : Type 0} (f f' : Field) (g g' : A → List ℕ) (p : X → P A) → ((x : X) → Ensures (p x) (λ a. Clean f (g a) × Clean f' (g' a)))
    → (xs : List X) → Ensures (each p xs) (λ vs. Clean f (of_each g vs) × Clean f' (of_each g' vs))
each-clean {X} {A} f f' g g' p h xs =
    let R : X → A → Type 0 = λ x a. Clean f (g a) × Clean f' (g' a) in
    e-then _ _ _ (e-each p R h xs) λ vs c. (clean-each f g R (λ x a r. r.0) xs vs c, clean-each f' g' R (λ x a r. r.1) xs vs c)

-- which may be absent, with blank entries in its place
when-clean : {X A : Type 0} (f f' : Field) (g g' : A → List ℕ) (p : X → P A) → ((x : X) → Ensures (p x) (λ a. Clean f (g a) × Clean f' (g' a)))
    → (blank : A) → g blank ≡ [] → g' blank ≡ [] → (on : Bool) (xs : List X) (n : ℕ)
    → Ensures (when on (each p xs) (replicate n blank)) (λ vs. Clean f (of_each g vs) × Clean f' (of_each g' vs))
when-clean f f' g g' p h blank u u' on xs n =
    e_when on (each p xs) (replicate n blank) _ (λ q. each-clean f f' g g' p h xs) (λ q. (clean-blank f g blank u n, clean-blank f' g' blank u' n))

-- ---- the programme

abbrev ProgrammeClean : Programme → Type 0
ProgrammeClean p = Clean IntermediateSpatialFormatIdx (only_if (has_isf p.content) p.isf)

assignment-clean : (objects : ℕ) → Ensures (program_assignment objects) ProgrammeClean
unfolding program_assignment intermediate_spatial_format
assignment-clean objects =
    e-bind _ _ _ (e-any _ _ λ dynonly.
    e-bind _ _ _ (e-any _ _ λ lfe.
    e-bind _ _ _ (e-any _ _ λ content.
    e-bind _ _ _ (e-any _ _ λ beds.
    e-bind _ _ _ (e-clean IntermediateSpatialFormatIdx (has_isf content) _ λ isf c.
    e-bind _ _ _ (e-any _ _ λ dynamics.
    e-bind _ _ _ (e-any _ _ λ reserved.
    e-give _ _ c)))))))

header-clean : Ensures header (λ h. ProgrammeClean h.programme)
unfolding header
header-clean =
    e-bind _ _ _ (e-any _ _ λ version.
    e-bind _ _ _ (e-any _ _ λ count.
    e-bind _ _ _ (e-then _ _ _ (assignment-clean count) λ p c.
    e-bind _ _ _ (e-pass (not (agrees p)) _ _ p _ λ q.
    e-bind _ _ _ (e-any _ _ λ alternate.
    e-give _ _ c)))))

-- ---- the object element

offset-clean : Ensures sample_offset (λ o. Clean SampleOffsetCode (o.code ∷ []))
unfolding sample_offset
offset-clean =
    e-bind _ _ _ (e-clean SampleOffsetCode true _ λ code c.
    e-bind _ _ _ (e-any _ _ λ index.
    e-bind _ _ _ (e-any _ _ λ bits.
    e-give _ _ c)))

timing-clean : Ensures md_update_info (λ m. Clean SampleOffsetCode (m.offset.code ∷ []))
unfolding md_update_info
timing-clean =
    e-bind _ _ _ (e-then _ _ _ offset-clean λ offset c.
    e-bind _ _ _ (e-any _ _ λ count.
    e-bind _ _ _ (e-any _ _ λ blocks.
    e-give _ _ c)))

zone-clean : (on : Bool) → Ensures (zone on) (λ z. Clean ZoneConstraintsIdx (only_if on z.index))
unfolding zone
zone-clean on = e-bind _ _ _ (e-clean ZoneConstraintsIdx on _ λ index c. e-bind _ _ _ (e-any _ _ λ elevation. e-give _ _ c))

extent-clean : (on : Bool) → Ensures (extent on) (λ x. Clean ObjectSizeIdx (only_if on x.index))
unfolding extent
extent-clean on =
    e-bind _ _ _ (e-clean ObjectSizeIdx on _ λ index c.
    e-bind _ _ _ (e-any _ _ λ all.
    e-bind _ _ _ (e-any _ _ λ width.
    e-bind _ _ _ (e-any _ _ λ depth.
    e-bind _ _ _ (e-any _ _ λ height.
    e-give _ _ c)))))

render-clean : (status : Status) (first : Bool)
    → Ensures (object_render_info status first)
    (λ r. Clean ZoneConstraintsIdx (only_if (has_zone r.parts) r.zone.index) × Clean ObjectSizeIdx (only_if (has_size r.parts) r.extent.index))
unfolding object_render_info
render-clean status first =
    e-bind _ _ _ (e-any _ _ λ parts.
    e-bind _ _ _ (e-any _ _ λ position.
    e-bind _ _ _ (e-any _ _ λ distance.
    e-bind _ _ _ (e-then _ _ _ (zone-clean (has_zone parts)) λ zone c.
    e-bind _ _ _ (e-then _ _ _ (extent-clean (has_size parts)) λ extent d.
    e-bind _ _ _ (e-any _ _ λ screen.
    e-bind _ _ _ (e-any _ _ λ snap.
    e-give _ _ (c, d))))))))

block-clean : (class blk : ℕ) → Ensures (object_info_block class blk) (λ b. Clean ZoneConstraintsIdx (zones_of b) × Clean ObjectSizeIdx (sizes_of b))
unfolding object_info_block
block-clean class blk =
    e-bind _ _ _ (e-any _ _ λ idle.
    e-bind _ _ _ (e-any _ _ λ status.
    e-bind _ _ _ (e-any _ _ λ basic.
    e-bind _ _ _ (e-any _ _ λ status'.
    e-bind _ _ _ (e-then _ _ _ (render-clean status' (eqb blk 0)) λ render c.
    e-bind _ _ _ (e-any _ _ λ additional.
    e-give _ _ c))))))

object-clean : (blocks class : ℕ)
    → Ensures (object_data blocks class) (λ bs. Clean ZoneConstraintsIdx (of_each zones_of bs) × Clean ObjectSizeIdx (of_each sizes_of bs))
unfolding object_data
object-clean blocks class = each-clean ZoneConstraintsIdx ObjectSizeIdx zones_of sizes_of (object_info_block class) (block-clean class) (from 0 blocks)

abbrev ObjectClean : Option ObjectElement → Type 0
ObjectClean o =
    Clean SampleOffsetCode (of_any (λ e. e.timing.offset.code ∷ []) o) × Clean ZoneConstraintsIdx (of_any (λ e. of_each (of_each zones_of) e.objects) o)
    × Clean ObjectSizeIdx (of_any (λ e. of_each (of_each sizes_of) e.objects) o)

objects-clean : (objects : ℕ) (shares : Shares) → Ensures (object_element objects shares) (λ e. ObjectClean (some e))
unfolding object_element
objects-clean objects shares =
    e-bind _ _ _ (e-then _ _ _ timing-clean λ timing c.
    e-bind _ _ _ (e-any _ _ λ absent.
    e-bind _ _ _ (e-any _ _ λ reserved.
    e-bind _ _ _ (e-then _ _ _ (each-clean ZoneConstraintsIdx ObjectSizeIdx (of_each zones_of) (of_each sizes_of)
    (λ j. object_data (length timing.blocks) (class_of shares j)) (λ j. object-clean (length timing.blocks) (class_of shares j)) (from 0 objects)) λ each d.
    e-give _ _ (c, d.0, d.1)))))

-- ---- the trim element

config-clean : Ensures trim_config (λ c. Clean TrimSurround (surrounds_of c) × Clean TrimHeight (heights_of c))
unfolding trim_config
config-clean =
    e-bind _ _ _ (e-any _ _ λ bydefault.
    e-bind _ _ _ (e-any _ _ λ disabled.
    e-bind _ _ _ (e-any _ _ λ presence.
    e-bind _ _ _ (e-any _ _ λ centre.
    e-bind _ _ _ (e-clean TrimSurround (has_surround presence) _ λ surround c.
    e-bind _ _ _ (e-clean TrimHeight (has_height presence) _ λ height d.
    e-bind _ _ _ (e-any _ _ λ tbsign.
    e-bind _ _ _ (e-any _ _ λ tbamount.
    e-bind _ _ _ (e-any _ _ λ lissign.
    e-bind _ _ _ (e-any _ _ λ lisamount.
    e-give _ _ (c, d)))))))))))

abbrev TrimClean : Option TrimTable → Type 0
TrimClean o =
    Clean WarpMode (of_any (λ t. t.warp ∷ []) o) × Clean GlobalTrimMode (of_any (λ t. t.mode ∷ []) o)
    × Clean TrimSurround (of_any (λ t. of_each surrounds_of t.configs) o) × Clean TrimHeight (of_any (λ t. of_each heights_of t.configs) o)

trim-clean : (objects : ℕ) → Ensures (trim_element objects) (λ t. TrimClean (some t))
unfolding trim_element
trim-clean objects =
    e-bind _ _ _ (e-clean WarpMode true _ λ warp c.
    e-bind _ _ _ (e-any _ _ λ reserved.
    e-bind _ _ _ (e-clean GlobalTrimMode true _ λ mode d.
    e-bind _ _ _ (e-then _ _ _ (when-clean TrimSurround TrimHeight surrounds_of heights_of (λ cfg. trim_config) (λ cfg. config-clean) no_config refl refl
    (eqb mode 2) (from 0 trim_configs) trim_configs) λ configs g.
    e-bind _ _ _ (e-any _ _ λ per-object.
    e-bind _ _ _ (e-any _ _ λ disabled.
    e-give _ _ (c, d, g.0, g.1)))))))

-- ---- the extended object element

-- behind mode 2 there is no table, and the value is the code
no_table : (t : Bool) (mode : ℕ) → eqb mode 2 ≡ true → both t (eqb mode 0) ≡ false
no_table true mode q = rw (eqb-true mode 2 q)
no_table false mode q = refl

both-clean : (f : Field) (s t : Bool) (v : ℕ) → (t ≡ true → Clean f (v ∷ [])) → Clean f (only_if (both s t) v)
both-clean f true true v h = h refl
both-clean f true false v h = λ u x r. x
both-clean f false t v h = λ u x r. x

code-clean : (used mode table code : ℕ) → (both (set? used) (eqb mode 0) ≡ false → 0 ≡ table) → Clean ObjectDivCode (only_if (eqb mode 2) code)
    → Clean ObjectDivCode (only_if (both (set? used) (eqb mode 2)) (table + code))
code-clean used mode table code absent c =
    both-clean ObjectDivCode (set? used) (eqb mode 2) (table + code) λ q.
    let z = absent (no_table (set? used) mode q) in
    let sum : code ≡ table + code = omega arith in
    subst (λ (n : ℕ). Clean ObjectDivCode (n ∷ [])) sum (subst (λ (t : Bool). Clean ObjectDivCode (only_if t code)) q c)

divergence-clean : (carries : Bool) → Ensures (obj_div_block carries) (λ d. Clean ObjectDivMode (modes_of d) × Clean ObjectDivCode (codes_of d))
unfolding obj_div_block
divergence-clean carries =
    e-bind _ _ _ (e-any _ _ λ used.
    e-bind _ _ _ (e-clean ObjectDivMode (set? used) _ λ mode c.
    e-bind _ _ _ (e_if (both (set? used) (eqb mode 0)) 2 _ λ table l z.
    e-bind _ _ _ (e-clean ObjectDivCode (eqb mode 2) _ λ code d.
    e-give _ _ (c, code-clean used mode table code z d)))))

abbrev ExtendedClean : Option Extension → Type 0
ExtendedClean o =
    Clean ObjectDivMode (of_any (λ x. of_each modes_of x.divergence) o) × Clean ObjectDivCode (of_any (λ x. of_each codes_of x.divergence) o)

extended-clean : (carries : List Bool) → Ensures (extended_object_element carries) (λ x. ExtendedClean (some x))
unfolding extended_object_element
extended-clean carries =
    e-bind _ _ _ (e-any _ _ λ present.
    e-bind _ _ _ (e-then _ _ _ (when-clean ObjectDivMode ObjectDivCode modes_of codes_of obj_div_block divergence-clean no_divergence refl refl
    (set? present) carries (length carries)) λ divergence c.
    e-bind _ _ _ (e-any _ _ λ present'.
    e-bind _ _ _ (e-any _ _ λ precise.
    e-give _ _ c))))

-- ---- the payload

abbrev KnownClean : Known → Type 0
KnownClean known = ObjectClean known.object × TrimClean known.trim × ExtendedClean known.extended

abbrev StateClean : State → Type 0
StateClean st = KnownClean st.known

fields-clean : (p : Programme) (k : Kind) (known : Known) → KnownClean known → Ensures (fields p k known) KnownClean
unfolding fields
fields-clean p Unknown known h = e-give _ _ h
fields-clean p Object known h = e-bind _ _ _ (e-then _ _ _ (objects-clean _ _) λ e c. e-give _ _ (c, h.1, h.2))
fields-clean p Trim known h = e-bind _ _ _ (e-then _ _ _ (trim-clean _) λ t c. e-give _ _ (h.0, c, h.2))
fields-clean p Extended known h = e-bind _ _ _ (e-then _ _ _ (extended-clean _) λ x c. e-give _ _ (h.0, h.1, c))

inside-clean : (p : Programme) (back : ℕ) (st : State) (k : Kind) → StateClean st → Ensures (oa_element p back st k) StateClean
unfolding pass_over read_known
inside-clean p back st k h =
    by_kind p back st (λ k x. Ensures x StateClean) (e-give _ _ h)
    (λ k known.
    e-bind _ _ _ (e-any _ _ λ once. e-bind _ _ _ (e-any _ _ λ timely. e-bind _ _ _ (e-then _ _ _ (fields-clean p k st.known h) λ now c. e-give _ _ c))))
    k

element-clean : (p : Programme) (alternate : ℕ) (st : State) → StateClean st → Ensures (oa_element_md p alternate st) StateClean
unfolding oa_element_md framed
element-clean p alternate st h =
    e-bind _ _ _ (e-any _ _ λ id.
    e-bind _ _ _ (e-any _ _ λ size.
    e-within _ _ _ _ (e-bind _ _ _ (e-any _ _ λ other.
    e-bind _ _ _ (e-any _ _ λ discard.
    inside-clean p _ st (kind id other) h)))))

elements-clean : (p : Programme) (alternate n : ℕ) (st : State) → StateClean st → Ensures (elements p alternate n st) StateClean
unfolding elements
elements-clean p alternate zero st h = e-give _ _ h
elements-clean p alternate (suc n) st h =
    e-bind _ _ _ (e-then _ _ _ (element-clean p alternate st h) λ next c. elements-clean p alternate n next c)

none-clean : KnownClean nothing
none-clean = (((λ v x r. x), (λ v x r. x), (λ v x r. x)), ((λ v x r. x), (λ v x r. x), (λ v x r. x), (λ v x r. x)), ((λ v x r. x), (λ v x r. x)))

payload-clean : Ensures object_audio_metadata_payload (λ q. ProgrammeClean q.programme × KnownClean q.known)
unfolding object_audio_metadata_payload
payload-clean =
    e-bind _ _ _ (e-then _ _ _ header-clean λ head c.
    e-bind _ _ _ (e-any _ _ λ n.
    e-bind _ _ _ (e-then _ _ _ (elements-clean head.programme head.alternate n (record { known = nothing; unknown = 0 }) none-clean) λ st d.
    e-give _ _ (c, d))))

pub carried-clean : (s : List ℕ) {q : Payload} {to : ℕ} → parsed s ≡ ok q to → (f : Field) → Clean f (carried f q)
carried-clean s {q} h f = go (ensured object_audio_metadata_payload _ payload-clean (bit s) (bit_lt s) 0 (8 * length s) past_payload h) f
  where
    go : ProgrammeClean q.programme × KnownClean q.known → (f : Field) → Clean f (carried f q)
    go x IntermediateSpatialFormatIdx = x.0
    go x SampleOffsetCode = x.1.0.0
    go x ZoneConstraintsIdx = x.1.0.1
    go x ObjectSizeIdx = x.1.0.2
    go x WarpMode = x.1.1.0
    go x GlobalTrimMode = x.1.1.1
    go x TrimSurround = x.1.1.2
    go x TrimHeight = x.1.1.3
    go x ObjectDivMode = x.1.2.0
    go x ObjectDivCode = x.1.2.1
