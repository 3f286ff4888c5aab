-- The field that a byte's source names was sent, and has its number where it stands: for a block and for an entry of the extended element.
use Rattle.std.specs.Prelude.{◌≡◌, Bool, true, false, List, ◌∷◌, ◌++◌, ℕ, zero, suc, ◌<◌, eqb, get_or}
use Rattle.std.proofs.Math.Path.{refl, ap}
use Rattle.std.proofs.Common.{sym, ◌∙◌, subst, true≢false, arith}
use Rattle.std.proofs.lemmas.Bool.{false≢true}
use Rattle.bits.specs.Language.{both, Bits, slice, number, P, bit}
use Rattle.oamd.specs.declared.Status.{Status}
use Rattle.oamd.specs.declared.Status.TheVariants.{Default, Full, Reuse, Mixed}
use Rattle.oamd.specs.declared.Position.{Position}
use Rattle.oamd.specs.declared.Position.TheVariants.{Absolute, Moved}
use Rattle.oamd.specs.declared.Block.{Block}
use Rattle.oamd.specs.declared.Divergence.{Divergence}
use Rattle.oamd.specs.declared.Precise.{Precise}
use Rattle.oamd.specs.Programme.{set?, clear?}
use Rattle.oamd.specs.Block.{has_gain, has_priority, has_position, has_zone, has_size, has_screen, sends}
use Rattle.oamd.specs.Extended.{has_x, has_y, has_z}
use Rattle.oamd.specs.Meaning.{value_of}
use Rattle.sources.specs.declared.Field.{Field}
use Rattle.sources.specs.declared.Field.TheVariants.{NotActive, GainIdx, GainBits, DefaultPriority, PriorityBits, DiffX, DiffY, DiffZ, PosX, PosY, PosZ}
use Rattle.sources.specs.declared.Field.TheVariants.{DistanceSpecified, AtInfinity, DistanceIdx, ZoneIdx, Elevation, SizeIdx, SizeBits, Width, Depth, Height}
use Rattle.sources.specs.declared.Field.TheVariants.{ScreenRef, ScreenFactor, DepthIdx, Snap, ObjectDivergence, DivMode, DivTable, DivCode, Presence}
use Rattle.sources.specs.declared.Field.TheVariants.{PreciseX, PreciseY, PreciseZ}
use Rattle.sources.specs.declared.Source.{Source}
use Rattle.sources.specs.declared.Source.TheVariants.{ByField, ByProgramme, ByBasicDefault, ByRenderDefault, ByNothing, ByBlock, ByMove, ByObject}
use Rattle.sources.specs.Sources.{info_block, div_block, prec_block, line_of, width_of, gain_source, priority_source, x_source, y_source, z_source, distance_source, size_source, screen_source, scene_sources}
use Rattle.sources.specs.Sources.{if_sent, divergence_sources, precise_sources}
use Rattle.sources.specs.Places.{arrival}
use Rattle.sources.specs.Where.{bit_of}
use Rattle.sources.specs.Coded.{coded_x, coded_y, coded_z, coded_value}
use Rattle.sources.specs.Given.{scene_count}
use Rattle.sources.specs.Offsets.{Lines, in_row, basic_lines, position_lines, distance_lines, zone_lines, extent_lines, screen_lines, render_lines, Unheld, block_lines, divergence_lines, precise_lines}
use Rattle.sources.specs.Lemmas.BySource.{listed, all, ◌▸◌, by-pick}
use Rattle.sources.specs.Lemmas.Meeting.{Meets}
use Rattle.sources.specs.Lemmas.Extras.{Quiet}
use Rattle.sources.specs.Lemmas.Lines.{Stand, line_at, stand_at, Laid}
use Rattle.sources.specs.Lemmas.Arrives.{AllParts, OfBasic, OfRender, Diverges}

-- ---- where a field is

-- each has a line
pub path-of : (f : Field) → (n : ℕ) × (path : List ℕ) × ((line_of f).path ≡ n ∷ path)
path-of NotActive = (_, _, refl)
path-of GainIdx = (_, _, refl)
path-of GainBits = (_, _, refl)
path-of DefaultPriority = (_, _, refl)
path-of PriorityBits = (_, _, refl)
path-of DiffX = (_, _, refl)
path-of DiffY = (_, _, refl)
path-of DiffZ = (_, _, refl)
path-of PosX = (_, _, refl)
path-of PosY = (_, _, refl)
path-of PosZ = (_, _, refl)
path-of DistanceSpecified = (_, _, refl)
path-of AtInfinity = (_, _, refl)
path-of DistanceIdx = (_, _, refl)
path-of ZoneIdx = (_, _, refl)
path-of Elevation = (_, _, refl)
path-of SizeIdx = (_, _, refl)
path-of SizeBits = (_, _, refl)
path-of Width = (_, _, refl)
path-of Depth = (_, _, refl)
path-of Height = (_, _, refl)
path-of ScreenRef = (_, _, refl)
path-of ScreenFactor = (_, _, refl)
path-of DepthIdx = (_, _, refl)
path-of Snap = (_, _, refl)
path-of ObjectDivergence = (_, _, refl)
path-of DivMode = (_, _, refl)
path-of DivTable = (_, _, refl)
path-of DivCode = (_, _, refl)
path-of Presence = (_, _, refl)
path-of PreciseX = (_, _, refl)
path-of PreciseY = (_, _, refl)
path-of PreciseZ = (_, _, refl)

-- the line of a field among lines
abbrev pub line_in : Field → Lines → Lines
line_in f l = line_at (line_of f).path l

-- where reading comes to it, what was read of it stands
pub stand_there : {A : Type 0} {s : List ℕ} {way : List ℕ → List ℕ} {p : P A} {v : A} {at e o to : ℕ} {l : Lines} → Meets s way p v at e o to
    → Laid p (bit s) at e o to l → (f : Field) → Stand (bit s) (bit_of s (way (line_of f).path)) (line_in f l)
stand_there {s = s} {way} {p} {at = at} {e} {o} {l = l} m laid f =
    let x = path-of f in
    let come = subst (λ (path : List ℕ). bit_of s (way path) ≡ arrival path p (bit s) at e o) (sym x.2) (m.comes x.0 x.1) in
    subst (λ (k : ℕ). Stand (bit s) k (line_in f l)) (sym (come ∙ laid.comes (line_of f).path)) (stand_at (bit s) (line_of f).path l at laid.stands)

-- R holds of the field that a source names
abbrev pub Named : (Field → Type 0) → Source → Type 0
Named R (ByField f) = R f
Named R ByProgramme = Unit {0}
Named R ByBasicDefault = Unit {0}
Named R ByRenderDefault = Unit {0}
Named R ByNothing = Unit {0}
Named R ByBlock = Unit {0}
Named R (ByMove f d) = R f
Named R ByObject = Unit {0}

-- ---- by the status

-- what holds of the default, of the block before, and of what is sent, if it is sent
by_part : (Q : Source → Type 0) (status : Status) (has : ℕ → Bool) (n parts : ℕ) → AllParts status n parts → has n ≡ true → (default x : Source) → Q default → Q ByBlock
    → (has parts ≡ true → Q x) → Q (value_of status (has parts) default ByBlock x)
by_part Q Default has n parts h t default x d b f = d
by_part Q Full has n parts h t default x d b f = f (ap has h ∙ t)
by_part Q Reuse has n parts h t default x d b f = b
by_part Q Mixed has n parts h t default x d b f = by-pick Q (has parts) f (λ e. b)

by-snap : (Q : Source → Type 0) (status : Status) {default x : Source} → Q default → Q ByBlock → (sends status ≡ true → Q x) → Q (value_of status true default ByBlock x)
by-snap Q Default d b f = d
by-snap Q Full d b f = f refl
by-snap Q Reuse d b f = b
by-snap Q Mixed d b f = f refl

-- a flag that is not set is clear
clear-flag : (v : ℕ) → v < 2 → set? v ≡ false → clear? v ≡ true
clear-flag zero l h = refl
clear-flag (suc zero) l h = absurd (true≢false h)
clear-flag (suc (suc v)) l h = absurd (omega arith)

both_hold : (t u : Bool) → t ≡ true → u ≡ true → both t u ≡ true
both_hold t u h g = rw (h, g)

-- ---- a block

-- at says where each field stands
module _ (b : Bits) (at : Field → ℕ) (begins : Bool) (block : Block) (u : Unheld) (of-basic : OfBasic block.basic) (of-render : OfRender block.render)
    (field : (f : Field) → (line_of f).clause ≡ info_block → Stand b (at f) (line_in f (block_lines begins block u))) (d : Divergence) (p : Precise) where
  abbrev Q : Source → Type 0
  Q x = Named (λ f. number (slice b (at f) (width_of f)) ≡ coded_value f block d p) x

  gain-stands : (first : Bool) → has_gain block.basic.parts ≡ true → Q (gain_source first block.basic.gain)
  unfolding gain_source Stand line_at block_lines basic_lines
  gain-stands first on =
      let index = block.basic.gain.index in
      by-pick Q (eqb index 0) (λ e. field GainIdx refl on)
      (λ e. by-pick Q (eqb index 1) (λ e. field GainIdx refl on)
      (λ e. by-pick Q (eqb index 2) (field GainBits refl)
      (λ e. by-pick Q first (λ e. field GainIdx refl on) (λ e. tt))))

  priority-stands : has_priority block.basic.parts ≡ true → Q (priority_source block.basic.priority)
  unfolding priority_source Stand line_at block_lines basic_lines
  priority-stands on =
      by-pick Q (set? block.basic.priority.bydefault) (λ e. field DefaultPriority refl on)
      (λ e. field PriorityBits refl (both_hold _ _ on (clear-flag _ of-basic.bydefault e)))

  distance-stands : has_position block.render.parts ≡ true → Q (distance_source block.render.distance)
  unfolding distance_source Stand line_at block_lines render_lines distance_lines
  distance-stands on =
      let x = block.render.distance in
      by-pick Q (set? x.given)
      (λ given. by-pick Q (set? x.infinite) (λ e. field AtInfinity refl given) (λ e. field DistanceIdx refl (both_hold _ _ given (clear-flag _ of-render.infinite e))))
      (λ e. field DistanceSpecified refl on)

  -- coordinates as they stand, or differences: the lines are those of one or of the other
  x-stands : has_position block.render.parts ≡ true → Q (x_source block.render.position)
  unfolding x_source Stand line_at block_lines render_lines position_lines
  x-stands on = go block.render.position refl
    where
      go : (p : Position) → block.render.position ≡ p → Q (x_source p)
      go (Absolute x y sign z) e = (rw (on, e) at (field PosX refl)) refl ∙ ap coded_x (sym e)
      go (Moved x y z) e = (rw (on, e) at (field DiffX refl)) refl ∙ ap coded_x (sym e)

  y-stands : has_position block.render.parts ≡ true → Q (y_source block.render.position)
  unfolding y_source Stand line_at block_lines render_lines position_lines
  y-stands on = go block.render.position refl
    where
      go : (p : Position) → block.render.position ≡ p → Q (y_source p)
      go (Absolute x y sign z) e = (rw (on, e) at (field PosY refl)) refl ∙ ap coded_y (sym e)
      go (Moved x y z) e = (rw (on, e) at (field DiffY refl)) refl ∙ ap coded_y (sym e)

  z-stands : has_position block.render.parts ≡ true → Q (z_source block.render.position)
  unfolding z_source Stand line_at block_lines render_lines position_lines
  z-stands on = go block.render.position refl
    where
      go : (p : Position) → block.render.position ≡ p → Q (z_source p)
      go (Absolute x y sign z) e = (rw (on, e) at (field PosZ refl)) refl ∙ ap coded_z (sym e)
      go (Moved x y z) e = (rw (on, e) at (field DiffZ refl)) refl ∙ ap coded_z (sym e)

  -- own is the field of the width, of the depth or of the height
  size-stands : (own : Field) → (eqb block.render.extent.index 2 ≡ true → Q (ByField own)) → has_size block.render.parts ≡ true → Q (size_source own block.render.extent)
  unfolding size_source Stand line_at block_lines render_lines extent_lines
  size-stands own h on =
      by-pick Q (eqb block.render.extent.index 2) h (λ e. by-pick Q (eqb block.render.extent.index 1) (field SizeBits refl) (λ e. (field SizeIdx refl).0 on))

  -- own is the field of the screen factor or of the depth factor
  screen-stands : (own : Field) → (set? block.render.screen.used ≡ true → Q (ByField own)) → has_screen block.render.parts ≡ true → Q (screen_source own block.render.screen)
  unfolding screen_source Stand line_at block_lines render_lines screen_lines
  screen-stands own h on = by-pick Q (set? block.render.screen.used) h (λ e. field ScreenRef refl on)

  -- bytes 0 to 16
  pub scene-stands : (first : Bool) (byte : ℕ) → byte < scene_count → Q (get_or (scene_sources first block) byte ByNothing)
  unfolding scene_sources Stand line_at block_lines render_lines zone_lines extent_lines screen_lines
  scene-stands first =
      let basic = by_part Q block.basic.status in
      let render = by_part Q block.render.status in
      let few = of-basic.full in
      let many = of-render.full in
      listed {n = scene_count}
      (field NotActive refl refl
      ▸ tt
      ▸ basic has_gain 3 _ few refl _ _ tt tt (gain-stands first)
      ▸ basic has_priority 3 _ few refl _ _ tt tt priority-stands
      ▸ render has_position 15 _ many refl _ _ tt tt x-stands
      ▸ render has_position 15 _ many refl _ _ tt tt y-stands
      ▸ render has_position 15 _ many refl _ _ tt tt z-stands
      ▸ render has_position 15 _ many refl _ _ tt tt distance-stands
      ▸ render has_size 15 _ many refl _ _ tt tt (size-stands Width (field Width refl))
      ▸ render has_size 15 _ many refl _ _ tt tt (size-stands Depth (field Depth refl))
      ▸ render has_size 15 _ many refl _ _ tt tt (size-stands Height (field Height refl))
      ▸ render has_zone 15 _ many refl _ _ tt tt (λ on. (field ZoneIdx refl).0 on)
      ▸ render has_zone 15 _ many refl _ _ tt tt (field Elevation refl)
      ▸ render has_screen 15 _ many refl _ _ tt tt (field ScreenRef refl)
      ▸ render has_screen 15 _ many refl _ _ tt tt (screen-stands ScreenFactor (field ScreenFactor refl))
      ▸ render has_screen 15 _ many refl _ _ tt tt (screen-stands DepthIdx (field DepthIdx refl))
      ▸ by-snap Q block.render.status tt tt (field Snap refl)
      ▸ all)

-- ---- an entry of each sort of the extended element

-- what is not 0 was sent
pub sent-with : (sent : Bool) {v : ℕ} (test : ℕ → Bool) → (sent ≡ false → v ≡ 0) → test 0 ≡ false → test v ≡ true → sent ≡ true
sent-with true test z h t = refl
sent-with false test z h t = absurd (false≢true (sym (ap test (z refl) ∙ h) ∙ t))

pub both_first : (t u : Bool) → both t u ≡ true → t ≡ true
both_first true u h = refl
both_first false u h = absurd (false≢true h)

pub both-second : (t u : Bool) → both t u ≡ true → u ≡ true
both-second true u h = h
both-second false u h = absurd (false≢true h)

module _ (b : Bits) (at : Field → ℕ) (block : Block) (d : Divergence) (p : Precise) (sent sent' : Bool) (quiet : Quiet sent sent' d p)
    (entry : sent ≡ true → (x : Diverges d) × ((f : Field) → (line_of f).clause ≡ div_block → Stand b (at f) (line_in f (in_row (divergence_lines d x.table x.code)))))
    (entry' : sent' ≡ true → (f : Field) → (line_of f).clause ≡ prec_block → Stand b (at f) (line_in f (in_row (precise_lines p)))) where
  abbrev R : Field → Type 0
  R f = number (slice b (at f) (width_of f)) ≡ coded_value f block d p

  from-used : set? d.used ≡ true → sent ≡ true
  from-used h = sent-with sent set? quiet.divergence.used refl h

  from-mode : eqb d.mode 2 ≡ true → sent ≡ true
  from-mode h = from-used (sent-with (set? d.used) (λ v. eqb v 2) quiet.divergence.mode refl h)

  if-sent : {t : Bool} (f : Field) → (t ≡ true → R f) → Named R (if_sent t f)
  if-sent {t} f h = by-pick (Named R) t h (λ e. tt)

  -- bytes 17 to 23, counted from 0
  pub extra-stands : (k : ℕ) → k < 7 → Named R (get_or (divergence_sources sent d ++ precise_sources sent' p) k ByNothing)
  unfolding divergence_sources precise_sources Stand line_at divergence_lines precise_lines
  extra-stands = listed {n = 7}
      (if-sent ObjectDivergence (λ h. (entry h).1 ObjectDivergence refl refl)
      ▸ if-sent DivMode (λ h. ((entry (from-used h)).1 DivMode refl).0 h)
      ▸ by-pick (Named R) (both (set? d.used) (eqb d.mode 0))
      (λ h. let x = entry (from-used (both_first _ _ h)) in x.1 DivTable refl h ∙ x.0.by-table h)
      (λ e. if-sent DivCode (λ h. let x = entry (from-mode h) in (x.1 DivCode refl).0 h ∙ x.0.by_code h))
      ▸ if-sent Presence (λ h. entry' h Presence refl refl)
      ▸ if-sent PreciseX (λ h. entry' (sent-with sent' has_x quiet.presence refl h) PreciseX refl h)
      ▸ if-sent PreciseY (λ h. entry' (sent-with sent' has_y quiet.presence refl h) PreciseY refl h)
      ▸ if-sent PreciseZ (λ h. entry' (sent-with sent' has_z quiet.presence refl h) PreciseZ refl h)
      ▸ all)
