-- Where a byte comes from, and the bit of the field that its source names, by what was found of its block. Assumes nothing.
use mathlib.Core.Path.{◌≡◌, refl, sym, ap, ap₂, ◌∙◌, subst}
use mathlib.Core.Bool.{Bool, true}
use mathlib.Core.List.{List, ◌++◌}
use Prim.Native.Nat.{ℕ, ◌+◌, ◌*◌, ◌<◌}
use native.Mathlib.Omega.{arith}
use lib.Dec.{eqb}
use lib.ListN.{get_or, get_or-append}
use lib.Seq.{get_or-append-add}
use Rattle.std.specs.Prelude.{Option}
use Rattle.std.specs.Option.{option_map_or}
use Rattle.bits.specs.Language.{both, Bits, P, bit}
use Rattle.bits.specs.Bytes.{bit_lt}
use Rattle.oamd.specs.declared.Status.{Status}
use Rattle.oamd.specs.declared.Status.TheVariants.{Default, Full, Reuse, Mixed}
use Rattle.oamd.specs.declared.Position.{Position}
use Rattle.oamd.specs.declared.Position.TheVariants.{Absolute, Moved}
use Rattle.oamd.specs.declared.Block.{Block}
use Rattle.oamd.specs.declared.Divergence.{Divergence}
use Rattle.oamd.specs.declared.Precise.{Precise}
use Rattle.oamd.specs.Tables.{record_stride}
use Rattle.oamd.specs.Programme.{set?}
use Rattle.oamd.specs.Extended.{has_x, has_y, has_z}
use Rattle.oamd.specs.Meaning.{value_of}
use Rattle.oamd.specs.Record.{Record}
use Rattle.record.specs.Bytes.{divergence_byte, precise_byte}
use Rattle.demands.specs.Terms.{tables_of}
use Rattle.sources.specs.declared.Field.{Field}
use Rattle.sources.specs.declared.Field.TheVariants.{NotActive, GainIdx, GainBits, DefaultPriority, PriorityBits, DiffX, DiffY, DiffZ, PosX, PosY, PosZ}
use Rattle.sources.specs.declared.Field.TheVariants.{DistanceSpecified, AtInfinity, DistanceIdx, ZoneIdx, Elevation, SizeIdx, SizeBits, Width, Depth, Height}
use Rattle.sources.specs.declared.Field.TheVariants.{ScreenRef, ScreenFactor, DepthIdx, Snap, ObjectDivergence, DivMode, DivTable, DivCode, Presence}
use Rattle.sources.specs.declared.Field.TheVariants.{PreciseX, PreciseY, PreciseZ}
use Rattle.sources.specs.declared.Source.{Source}
use Rattle.sources.specs.declared.Source.TheVariants.{ByField, ByProgramme, ByBasicDefault, ByRenderDefault, ByNothing, ByBlock, ByMove, ByObject}
use Rattle.sources.specs.declared.Placed.{Placed}
use Rattle.sources.specs.declared.Extra.{Extra}
use Rattle.sources.specs.declared.Told.{Told}
use Rattle.sources.specs.declared.Named as declared-named
use Rattle.sources.specs.Places.{arrival}
use Rattle.sources.specs.Sources.{Clause, info_block, div_block, prec_block, line_of, gain_source, priority_source, x_source, y_source, z_source, distance_source, size_source, screen_source, scene_sources}
use Rattle.sources.specs.Sources.{if_sent, divergence_sources, precise_sources}
use Rattle.sources.specs.Where.{path_of, bit_of, field_bit}
use Rattle.sources.specs.Chain.{objects_in, blocks_in, no_record, record_at, divergence_sent, presence_sent, source_at}
use Rattle.sources.specs.Explaining.{source_bit}
use Rattle.sources.specs.Given.{scene_count}
use Rattle.sources.specs.Offsets.{offset_in, offset_in_divergence, offset_in_precise}
use Rattle.sources.specs.Asked.{payload_in, Asked, Recorded, named_by, told_at}
use Rattle.sources.specs.Walks.{BlockFound, DivergenceFound, PreciseFound}
use Rattle.sources.specs.Lemmas.BySource.{listed, all, ◌▸◌, by-pick}
use Rattle.sources.specs.Lemmas.Meeting.{Meets}
use Rattle.sources.specs.Lemmas.Extras.{Quiet}
use Rattle.sources.specs.Lemmas.Records.{record-at, quiet_at}
use Rattle.sources.specs.Lemmas.Bytes.{source-scene, source-extra}
use Rattle.sources.specs.Lemmas.Arrives.{block-arrives, divergence-arrives, precise-arrives}
use Rattle.sources.specs.Lemmas.Standing.{path-of, Named, sent-with, both_first}
use Rattle.sources.proofs.Chaining.{among-asked}

-- ---- the field that a source names, by its clause

by_value : (Q : Source → Type 0) (status : Status) (sent : Bool) (default x : Source) → Q default → Q ByBlock → Q x → Q (value_of status sent default ByBlock x)
by_value Q Default sent default x d b h = d
by_value Q Full sent default x d b h = h
by_value Q Reuse sent default x d b h = b
by_value Q Mixed sent default x d b h = by-pick Q sent (λ e. h) (λ e. b)

-- bytes 0 to 16 name fields of the block
module _ (R : Field → Type 0) (field : (f : Field) → (line_of f).clause ≡ info_block → R f) where
  abbrev Q : Source → Type 0
  Q x = Named R x

  x-named : (p : Position) → Q (x_source p)
  unfolding x_source
  x-named (Absolute x y sign z) = field PosX refl
  x-named (Moved x y z) = field DiffX refl

  y-named : (p : Position) → Q (y_source p)
  unfolding y_source
  y-named (Absolute x y sign z) = field PosY refl
  y-named (Moved x y z) = field DiffY refl

  z-named : (p : Position) → Q (z_source p)
  unfolding z_source
  z-named (Absolute x y sign z) = field PosZ refl
  z-named (Moved x y z) = field DiffZ refl

  scene-named : (first : Bool) (block : Block) (byte : ℕ) → byte < scene_count → Q (get_or (scene_sources first block) byte ByNothing)
  unfolding scene_sources gain_source priority_source distance_source size_source screen_source
  scene-named first block =
      let basic = by_value Q block.basic.status in
      let render = by_value Q block.render.status in
      let gain = block.basic.gain.index in
      let extent = block.render.extent.index in
      let distance = block.render.distance in
      let size : (own : Field) → R own → Q (size_source own block.render.extent) =
      λ own h. by-pick Q (eqb extent 2) (λ e. h) (λ e. by-pick Q (eqb extent 1) (λ e. field SizeBits refl) (λ e. field SizeIdx refl)) in
      let screen : (own : Field) → R own → Q (screen_source own block.render.screen) =
      λ own h. by-pick Q (set? block.render.screen.used) (λ e. h) (λ e. field ScreenRef refl) in
      listed {n = scene_count}
      (field NotActive refl
      ▸ tt
      ▸ basic _ _ _ tt tt
      (by-pick Q (eqb gain 0) (λ e. field GainIdx refl)
      (λ e. by-pick Q (eqb gain 1) (λ e. field GainIdx refl)
      (λ e. by-pick Q (eqb gain 2) (λ e. field GainBits refl) (λ e. by-pick Q first (λ e. field GainIdx refl) (λ e. tt)))))
      ▸ basic _ _ _ tt tt (by-pick Q (set? block.basic.priority.bydefault) (λ e. field DefaultPriority refl) (λ e. field PriorityBits refl))
      ▸ render _ _ _ tt tt (x-named block.render.position)
      ▸ render _ _ _ tt tt (y-named block.render.position)
      ▸ render _ _ _ tt tt (z-named block.render.position)
      ▸ render _ _ _ tt tt
      (by-pick Q (set? distance.given) (λ e. by-pick Q (set? distance.infinite) (λ e. field AtInfinity refl) (λ e. field DistanceIdx refl)) (λ e. field DistanceSpecified refl))
      ▸ render _ _ _ tt tt (size Width (field Width refl))
      ▸ render _ _ _ tt tt (size Depth (field Depth refl))
      ▸ render _ _ _ tt tt (size Height (field Height refl))
      ▸ render _ _ _ tt tt (field ZoneIdx refl)
      ▸ render _ _ _ tt tt (field Elevation refl)
      ▸ render _ _ _ tt tt (field ScreenRef refl)
      ▸ render _ _ _ tt tt (screen ScreenFactor (field ScreenFactor refl))
      ▸ render _ _ _ tt tt (screen DepthIdx (field DepthIdx refl))
      ▸ render _ _ _ tt tt (field Snap refl)
      ▸ all)

if-named : (R : Field → Type 0) {t : Bool} (f : Field) → (t ≡ true → R f) → Named R (if_sent t f)
if-named R {t} f h = by-pick (Named R) t h (λ e. tt)

-- bytes 17 to 19 and 20 to 23, counted from 0, name fields of the extended element, and only where they were sent
module _ (R : Field → Type 0) (sent sent' : Bool) (d : Divergence) (p : Precise) (quiet : Quiet sent sent' d p) where
  divergence-named : (sent ≡ true → (f : Field) → (line_of f).clause ≡ div_block → R f) → (k : ℕ) → k < 3 → Named R (get_or (divergence_sources sent d) k ByNothing)
  unfolding divergence_sources
  divergence-named entry =
      let from-used : set? d.used ≡ true → sent ≡ true = λ h. sent-with sent set? quiet.divergence.used refl h in
      let from-mode : eqb d.mode 2 ≡ true → sent ≡ true = λ h. from-used (sent-with (set? d.used) (λ v. eqb v 2) quiet.divergence.mode refl h) in
      listed {n = 3}
      (if-named R ObjectDivergence (λ h. entry h ObjectDivergence refl)
      ▸ if-named R DivMode (λ h. entry (from-used h) DivMode refl)
      ▸ by-pick (Named R) (both (set? d.used) (eqb d.mode 0)) (λ h. entry (from-used (both_first _ _ h)) DivTable refl)
      (λ e. if-named R DivCode (λ h. entry (from-mode h) DivCode refl))
      ▸ all)

  precise-named : (sent' ≡ true → (f : Field) → (line_of f).clause ≡ prec_block → R f) → (k : ℕ) → k < 4 → Named R (get_or (precise_sources sent' p) k ByNothing)
  unfolding precise_sources
  precise-named entry = listed {n = 4}
      (if-named R Presence (λ h. entry h Presence refl)
      ▸ if-named R PreciseX (λ h. entry (sent-with sent' has_x quiet.presence refl h) PreciseX refl)
      ▸ if-named R PreciseY (λ h. entry (sent-with sent' has_y quiet.presence refl h) PreciseY refl)
      ▸ if-named R PreciseZ (λ h. entry (sent-with sent' has_z quiet.presence refl h) PreciseZ refl)
      ▸ all)

-- ---- its bit

abbrev bits_of : List ℕ → Bits
bits_of s = bit s

-- where reading comes to a field of a clause
arrived : {A : Type 0} (s : List ℕ) (n j b : ℕ) (clause : Clause) {p : P A} {v : A} {at e o to : ℕ} → Meets s (path_of s n j b clause) p v at e o to → (f : Field)
    → (line_of f).clause ≡ clause → field_bit s n j b f ≡ arrival (line_of f).path p (bit s) at e o
unfolding field_bit
arrived s n j b clause {p} {at = at} {e} {o} m f c =
    let x = path-of f in
    ap (λ (c : Clause). bit_of s (path_of s n j b c (line_of f).path)) c
    ∙ subst (λ (path : List ℕ). bit_of s (path_of s n j b clause path) ≡ arrival path p (bit s) at e o) (sym x.2) (m.comes x.0 x.1)

bit-named : (s : List ℕ) (n j b at : ℕ) (off : Field → ℕ) (x : Source) → Named (λ f. field_bit s n j b f ≡ at + off f) x
    → option_map_or (λ (y : declared-named.Named). at + off y.field) (named_by x) 0 ≡ source_bit s n j b x
bit-named s n j b at off (ByField f) h = sym h
bit-named s n j b at off ByProgramme h = refl
bit-named s n j b at off ByBasicDefault h = refl
bit-named s n j b at off ByRenderDefault h = refl
bit-named s n j b at off ByNothing h = refl
bit-named s n j b at off ByBlock h = refl
bit-named s n j b at off (ByMove f d) h = sym h
bit-named s n j b at off ByObject h = refl

-- both together
told_as : (s : List ℕ) (n j b byte at : ℕ) {bit : ℕ} {source : Source} {named : Option declared-named.Named} (off : Field → ℕ) → source ≡ source_at s (payload_in s) byte j b → named ≡ named_by source
    → bit ≡ option_map_or (λ (y : declared-named.Named). at + off y.field) named 0 → Named (λ f. field_bit s n j b f ≡ at + off f) source
    → ◌≡◌ {A = Told} (record { source = source; bit = bit }) (told_at s n byte j b)
unfolding told_at
told_as s n j b byte at {bit} {source} off source_is named-is bit_is h =
    let here : bit ≡ source_bit s n j b source =
    bit_is ∙ ap (λ (o : Option declared-named.Named). option_map_or (λ (y : declared-named.Named). at + off y.field) o 0) named-is ∙ bit-named s n j b at off source h in
    ap₂ (λ (x : Source) (k : ℕ). record { source = x; bit = k }) source_is (here ∙ ap (source_bit s n j b) source_is)

-- ---- of a block

module _ {s : List ℕ} {n j b : ℕ} (a : Asked s n j b) where
  pub scene-told : {byte : ℕ} {r : Placed} {source : Source} {named : Option declared-named.Named} {bit : ℕ} → named ≡ named_by source → byte < scene_count → BlockFound s n j b r → source ≡ get_or (scene_sources (eqb j 0) r.block) byte ByNothing
      → bit ≡ option_map_or (λ (y : declared-named.Named). r.at + offset_in y.field (eqb b 0) r.block) named 0 → ◌≡◌ {A = Told} (record { source = source; bit = bit }) (told_at s n byte j b)
  scene-told {byte} {r} named-is l found source_is bit_is =
      let R : Field → Type 0 = λ f. field_bit s n j b f ≡ r.at + offset_in f (eqb b 0) r.block in
      let m = found.here.meets in
      let field : (f : Field) → (line_of f).clause ≡ info_block → R f =
      λ f c. arrived s n j b info_block m f c ∙ block-arrives (bits_of s) (bit_lt s) r.at found.end _ f found.class b m.ran c in
      told_as s n j b byte r.at (λ f. offset_in f (eqb b 0) r.block)
      (source_is ∙ ap (λ (x : Block). get_or (scene_sources (eqb j 0) x) byte ByNothing) found.same ∙ sym (source-scene s a.accepted.ran j b byte l)) named-is bit_is
      (subst (Named R) (sym source_is) (scene-named R field (eqb j 0) r.block byte l))

  -- ---- of a record, with what the extended element has for it

  module _ {records : List ℕ} (t : Recorded s records) {i : ℕ} (index : i ≡ j * n + b) where
    -- the record in the buffer
    record_is : Rattle.record.specs.Bytes.record_at records (record_stride * i) ≡ record_at (payload_in s) j b
    unfolding record_at
    record_is =
        let same : i ≡ j * blocks_in (payload_in s) + b = index ∙ ap (λ (m : ℕ). j * m + b) a.blocks in
        let m : objects_in (payload_in s) * n ≡ objects_in (payload_in s) * blocks_in (payload_in s) = ap (λ (m : ℕ). objects_in (payload_in s) * m) a.blocks in
        t.same i (omega (arith, (among-asked a).index)) ∙ ap (λ (m : ℕ). get_or (tables_of (payload_in s)).records m no_record) same

    abbrev block_there : b < blocks_in (payload_in s)
    block_there = omega (arith, a.block, a.blocks)

    abbrev noted : Record
    noted = record_at (payload_in s) j b

    quiet_here : Quiet (divergence_sent s (payload_in s) j b) (presence_sent s (payload_in s) j b) noted.divergence noted.precise
    quiet_here = subst (λ (r : Record). Quiet (divergence_sent s (payload_in s) j b) (presence_sent s (payload_in s) j b) r.divergence r.precise)
        (sym (record-at s a.accepted.ran j b)) (quiet_at s a.accepted.ran j b a.object block_there)

    abbrev extras : List Source
    extras = divergence_sources (divergence_sent s (payload_in s) j b) noted.divergence ++ precise_sources (presence_sent s (payload_in s) j b) noted.precise

    extra-source : (k : ℕ) → source_at s (payload_in s) (scene_count + k) j b ≡ get_or extras k ByNothing
    extra-source k = source-extra s a.accepted.ran j b k
        ∙ ap (λ (r : Record). get_or (divergence_sources (divergence_sent s (payload_in s) j b) r.divergence ++ precise_sources (presence_sent s (payload_in s) j b) r.precise) k ByNothing)
        (sym (record-at s a.accepted.ran j b))

    divergence-source : (k : ℕ) → k < 3 → get_or extras k ByNothing ≡ get_or (divergence_sources (divergence_sent s (payload_in s) j b) noted.divergence) k ByNothing
    unfolding divergence_sources
    divergence-source k l =
        get_or-append (divergence_sources (divergence_sent s (payload_in s) j b) noted.divergence) (precise_sources (presence_sent s (payload_in s) j b) noted.precise) ByNothing k l

    precise-source : (k : ℕ) → get_or extras (3 + k) ByNothing ≡ get_or (precise_sources (presence_sent s (payload_in s) j b) noted.precise) k ByNothing
    unfolding divergence_sources
    precise-source k =
        get_or-append-add (divergence_sources (divergence_sent s (payload_in s) j b) noted.divergence) (precise_sources (presence_sent s (payload_in s) j b) noted.precise) k ByNothing

    pub divergence-told : {k : ℕ} {d : Divergence} {x : Extra} {source : Source} {named : Option declared-named.Named} {bit : ℕ} → named ≡ named_by source → k < 3 → d ≡ Rattle.record.specs.Bytes.divergence_at records (record_stride * i) → DivergenceFound s n j b x
        → source ≡ get_or (divergence_sources x.sent d) k ByNothing → bit ≡ option_map_or (λ (y : declared-named.Named). x.at + offset_in_divergence y.field d) named 0
        → ◌≡◌ {A = Told} (record { source = source; bit = bit }) (told_at s n (divergence_byte + k) j b)
    divergence-told {k} {d} {x} {source} named-is l d-is found source_is bit_is =
        let own : d ≡ noted.divergence = d-is ∙ ap (λ (r : Record). r.divergence) record_is in
        let R : Field → Type 0 = λ f. field_bit s n j b f ≡ x.at + offset_in_divergence f d in
        let field : divergence_sent s (payload_in s) j b ≡ true → (f : Field) → (line_of f).clause ≡ div_block → R f =
        λ sent f c.
        let y = found.met (found.sent ∙ sent) in
        arrived s n j b div_block y.here.meets f c ∙ divergence-arrives (bits_of s) (bit_lt s) x.at y.end _ f y.here.meets.ran c
        ∙ ap (λ (d : Divergence). x.at + offset_in_divergence f d) (sym own) in
        let listed-as : source ≡ get_or (divergence_sources (divergence_sent s (payload_in s) j b) noted.divergence) k ByNothing =
        source_is ∙ ap₂ (λ (t : Bool) (d : Divergence). get_or (divergence_sources t d) k ByNothing) found.sent own in
        told_as s n j b (divergence_byte + k) x.at (λ f. offset_in_divergence f d) (listed-as ∙ sym (divergence-source k l) ∙ sym (extra-source k)) named-is bit_is
        (subst (Named R) (sym listed-as) (divergence-named R _ _ _ _ quiet_here field k l))

    pub precise-told : {k : ℕ} {p : Precise} {x : Extra} {source : Source} {named : Option declared-named.Named} {bit : ℕ} → named ≡ named_by source → k < 4 → p ≡ Rattle.record.specs.Bytes.precise_at records (record_stride * i) → PreciseFound s n j b x
        → source ≡ get_or (precise_sources x.sent p) k ByNothing → bit ≡ option_map_or (λ (y : declared-named.Named). x.at + offset_in_precise y.field p) named 0
        → ◌≡◌ {A = Told} (record { source = source; bit = bit }) (told_at s n (precise_byte + k) j b)
    precise-told {k} {p} {x} {source} named-is l p-is found source_is bit_is =
        let own : p ≡ noted.precise = p-is ∙ ap (λ (r : Record). r.precise) record_is in
        let R : Field → Type 0 = λ f. field_bit s n j b f ≡ x.at + offset_in_precise f p in
        let field : presence_sent s (payload_in s) j b ≡ true → (f : Field) → (line_of f).clause ≡ prec_block → R f =
        λ sent f c.
        let set = found.sent ∙ sent in
        let y = found.met set in
        arrived s n j b prec_block y.here.meets f c ∙ precise-arrives (bits_of s) (bit_lt s) x.at y.end _ f y.here.meets.ran (found.flag set) c
        ∙ ap (λ (p : Precise). x.at + offset_in_precise f p) (sym own) in
        let listed-as : source ≡ get_or (precise_sources (presence_sent s (payload_in s) j b) noted.precise) k ByNothing =
        source_is ∙ ap₂ (λ (t : Bool) (p : Precise). get_or (precise_sources t p) k ByNothing) found.sent own in
        let behind : scene_count + (3 + k) ≡ precise_byte + k = omega arith in
        told_as s n j b (precise_byte + k) x.at (λ f. offset_in_precise f p) (listed-as ∙ sym (precise-source k) ∙ sym (extra-source (3 + k)) ∙ ap (λ (m : ℕ). source_at s (payload_in s) m j b) behind) named-is bit_is
        (subst (Named R) (sym listed-as) (precise-named R _ _ _ _ quiet_here field k l))
