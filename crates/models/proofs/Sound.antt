-- Over recordings: a translation that ARMv8 allows comes from a source that IMM allows (demand 3), and a source that x86-TSO allows is one that
-- IMM allows (02, slip 6).
use mathlib.Core.List.{List}
use mathlib.Core.Path.{◌≡◌}
use Prim.Native.Nat.{ℕ}
use Rattle.models.specs.Recording.{Recording}
use Rattle.models.specs.Graph.{graph, base, Within}
use Rattle.models.specs.Rules.{IMM, ARMv8, TSO, Allowed, verdict}
use Rattle.models.specs.Loads.{Loads}
use Rattle.models.specs.Translated.{Translated}
use Rattle.models.proofs.Agree.{po_decides, recording_allowed}
use Rattle.models.proofs.FromLoads.{formed}
use Rattle.models.proofs.FromTranslated.{translation_loads, corresponds}
use Rattle.models.proofs.Theorem.{theorem_4_5}
use Rattle.models.proofs.TsoTheorem.{tso_theorem}

-- Over any type of events, where the source's program order is decidable.
pub translation_sound : {E : Type 0} (S C : Recording E) → ((a b : E) → Dec ((graph S).po a b)) → Loads S → Translated S C
    → Allowed ARMv8 (graph C) → Allowed IMM (graph S)
translation_sound S C decided l t m = theorem_4_5 (graph S) (graph C) (formed S l) decided (formed C (translation_loads S C l t)) (corresponds S C l t) m

-- The same of the computed verdicts, over lists that hold all events.
pub verdict_sound : (es fs : List ℕ) (S C : Recording ℕ) → Within es S → Within fs C → Loads S → Translated S C
    → verdict fs (base fs C) ARMv8 ≡ 0 → verdict es (base es S) IMM ≡ 0
verdict_sound es fs S C v w l t p =
    (recording_allowed es S v IMM).1 (translation_sound S C (po_decides es S v) l t ((recording_allowed fs C w ARMv8).0 p))

pub tso_sound : {E : Type 0} (S : Recording E) → ((a b : E) → Dec ((graph S).po a b)) → Loads S → Allowed TSO (graph S) → Allowed IMM (graph S)
tso_sound S decided l m = tso_theorem (graph S) (formed S l) decided m

pub tso_verdict_sound : (es : List ℕ) (S : Recording ℕ) → Within es S → Loads S → verdict es (base es S) TSO ≡ 0 → verdict es (base es S) IMM ≡ 0
tso_verdict_sound es S v l p = (recording_allowed es S v IMM).1 (tso_sound S (po_decides es S v) l ((recording_allowed es S v TSO).0 p))
