-- What the verdicts of the three models say of each other, over bytes and with the definitions that the calls' contracts cite.
-- `proofs/Proved.antt` proves it.
-- Demand 3: "No source recording that loads, whatever its events and links, is broken under IMM while its translation is allowed under ARMv8.
-- Whenever a source recording loads, each of its translations loads too. Loading, translation and verdicts are those that the papers define."
-- 02, slip 6: "An x86 user wants the same assurance as an ARM user: no loading source recording is allowed by this verdict and broken under IMM."
use Rattle.std.specs.Prelude.{◌≡◌, List, ℕ}
use Rattle.relation.specs.Rel.{nodes}
use Rattle.models.specs.Graph.{base}
use Rattle.models.specs.Rules.{IMM, ARMv8, TSO, verdict}
use Rattle.layout.specs.Layout.{source, chip}
use Rattle.layout.specs.Decode.{decode}
use Rattle.recording.specs.Load.{LoadsAs}
use Rattle.translation.specs.Translation.{translation}

-- The verdict on the recording that a file holds: 0 allowed, else the number of the first broken rule.
unfoldable pub imm_verdict : List ℕ → ℕ
imm_verdict f = verdict nodes (base nodes (decode f)) IMM

unfoldable pub armv8_verdict : List ℕ → ℕ
armv8_verdict f = verdict nodes (base nodes (decode f)) ARMv8

unfoldable pub tso_verdict : List ℕ → ℕ
tso_verdict f = verdict nodes (base nodes (decode f)) TSO

-- Demand 3, of a source file that loads: its translation loads as a chip file, and where that is allowed so is the source.
pub record Sound (f : List ℕ) : Type 0 where
  pub translation_loads : LoadsAs chip (translation f)
  pub allowed_back : armv8_verdict (translation f) ≡ 0 → imm_verdict f ≡ 0

abbrev pub Soundness : Type 0
Soundness = (f : List ℕ) → LoadsAs source f → Sound f

-- Slip 6: a source file that x86-TSO allows is one that IMM allows.
abbrev pub TsoSoundness : Type 0
TsoSoundness = (f : List ℕ) → LoadsAs source f → tso_verdict f ≡ 0 → imm_verdict f ≡ 0
