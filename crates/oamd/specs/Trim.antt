-- 5.5.12 trim_element, and the trim table.
use Rattle.std.specs.Prelude.{Bool, List, [], ◌∷◌, ◌++◌, ℕ, ◌+◌, eqb, replicate}
use Rattle.std.proofs.Math.Option.{Option, none, some}
use Rattle.bits.specs.Language.{both, P, give, ◌>>=◌, bits, when, bits_if, for, flag}
use Rattle.oamd.specs.declared.TrimConfig.{TrimConfig}
use Rattle.oamd.specs.Programme.{set?, clear?}
use Rattle.oamd.specs.Tables.{trim_configs, trim_fixed}
use Rattle.oamd.specs.Reserved.{WarpMode, GlobalTrimMode, TrimSurround, TrimHeight, unreserved, unreserved_if}

-- Table 34: which fields are sent, by index of trim_balance_presence[]
abbrev pub has_centre : ℕ → Bool
has_centre presence = set? (flag 5 4 presence)

abbrev pub has_surround : ℕ → Bool
has_surround presence = set? (flag 5 3 presence)

abbrev pub has_height : ℕ → Bool
has_height presence = set? (flag 5 2 presence)

abbrev pub has_tb : ℕ → Bool
has_tb presence = set? (flag 5 1 presence)

abbrev pub has_lis : ℕ → Bool
has_lis presence = set? (flag 5 0 presence)

-- one configuration
unfoldable pub trim_config : P TrimConfig
trim_config = do
  b_default_trim ← bits 1
  b_disable_trim ← bits_if (clear? b_default_trim) 1
  trim_balance_presence ← bits_if (both (clear? b_default_trim) (clear? b_disable_trim)) 5
  trim_centre ← bits_if (has_centre trim_balance_presence) 4
  trim_surround ← unreserved_if (has_surround trim_balance_presence) TrimSurround
  trim_height ← unreserved_if (has_height trim_balance_presence) TrimHeight
  bal3D_Y_sign_tb_code ← bits_if (has_tb trim_balance_presence) 1
  bal3D_Y_amount_tb ← bits_if (has_tb trim_balance_presence) 4
  bal3D_Y_sign_lis_code ← bits_if (has_lis trim_balance_presence) 1
  bal3D_Y_amount_lis ← bits_if (has_lis trim_balance_presence) 4
  give {A = TrimConfig} (record {
    bydefault = b_default_trim;
    disabled = b_disable_trim;
    presence = trim_balance_presence;
    centre = trim_centre;
    surround = trim_surround;
    height = trim_height;
    tbsign = bal3D_Y_sign_tb_code;
    tbamount = bal3D_Y_amount_tb;
    lissign = bal3D_Y_sign_lis_code;
    lisamount = bal3D_Y_amount_lis;
  })

abbrev pub no_config : TrimConfig
no_config = record {
  bydefault = 0;
  disabled = 0;
  presence = 0;
  centre = 0;
  surround = 0;
  height = 0;
  tbsign = 0;
  tbamount = 0;
  lissign = 0;
  lisamount = 0;
}

-- the trim table: whether the element is there, and its fields as carried; disabled is b_disable_trim[obj]
pub record TrimTable : Type 0 where
  pub present : ℕ
  pub warp : ℕ
  pub mode : ℕ
  pub configs : List TrimConfig
  pub per-object : ℕ
  pub disabled : List ℕ

-- the two reserved bits are passed over
unfoldable pub trim_element : ℕ → P TrimTable
trim_element object_count = do
  warp_mode ← unreserved WarpMode
  reserved ← bits 2
  global_trim_mode ← unreserved GlobalTrimMode
  configs ← when (eqb global_trim_mode 2) (for trim_configs (λ cfg. trim_config)) (replicate trim_configs no_config)
  b_disable_trim_per_obj ← bits 1
  b_disable_trim ← when (set? b_disable_trim_per_obj) (for object_count (λ obj. bits 1)) (replicate object_count 0)
  give {A = TrimTable} (record {
    present = 1;
    warp = warp_mode;
    mode = global_trim_mode;
    configs = configs;
    per-object = b_disable_trim_per_obj;
    disabled = b_disable_trim;
  })

-- ---- the trim table

-- without the element all of it is 0
abbrev pub no_trim : ℕ → TrimTable
no_trim objects = record {
  present = 0;
  warp = 0;
  mode = 0;
  configs = replicate trim_configs no_config;
  per-object = 0;
  disabled = replicate objects 0;
}

unfoldable pub trim_of : ℕ → Option TrimTable → TrimTable
trim_of objects none = no_trim objects
trim_of objects (some t) = t

-- byte by byte, in the order of 5.5.12
abbrev pub config_bytes_of : TrimConfig → List ℕ
config_bytes_of c =
    c.bydefault ∷ c.disabled ∷ c.presence ∷ c.centre ∷ c.surround ∷ c.height ∷ c.tbsign ∷ c.tbamount ∷ c.lissign ∷ c.lisamount ∷ []

unfoldable pub configs_bytes_of : List TrimConfig → List ℕ
configs_bytes_of [] = []
configs_bytes_of (c ∷ cs) = config_bytes_of c ++ configs_bytes_of cs

unfoldable pub trim_bytes_of : TrimTable → List ℕ
trim_bytes_of t = t.present ∷ t.warp ∷ t.mode ∷ (configs_bytes_of t.configs ++ (t.per-object ∷ t.disabled))

-- how many they are
abbrev pub trim_needed : ℕ → ℕ
trim_needed objects = trim_fixed + objects
