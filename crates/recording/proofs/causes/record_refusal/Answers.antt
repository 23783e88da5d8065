-- `causes::record_refusal` meets its contract: the first cause that applies.
-- The file, and that the causes tried so far do not apply.
use mathlib.Core.Bool.{Bool, not}
use mathlib.Core.Path.{◌≡◌, refl, sym, ap, ◌∙◌}
use Rattle.models.specs.Rules.{first}
use Rattle.models.proofs.FirstLaws.{at, positive, first_at, none_more}
use Rattle.recording.specs.Causes.{bad_event, record_causes}
use Rattle.recording.proofs.causes.record_refusal.Goals as goal

-- A cause from the code's test of its opposite.
opposite : (b c x : Bool) → b ≡ c → not b ≡ x → not c ≡ x
opposite b c x p q = sym (ap not p) ∙ q

pub returns-then-not-events_legal : goal.returns-then-not-events_legal
unfolding record_causes bad_event at positive first
returns-then-not-events_legal c =
    sym (first_at 0 (record_causes c.args.file.now) refl refl (opposite _ _ _ c.events_legal.ensures (ap not c.if-not-events_legal.true)))

pub returns-then-not-threads_sound : goal.returns-then-not-threads_sound
unfolding record_causes bad_event at positive first
returns-then-not-threads_sound c =
    sym (first_at 1 (record_causes _) refl (none_more 0 (record_causes (c.args.file.now)) refl refl (opposite _ _ _ c.events_legal.ensures (ap not c.if-not-events_legal.false))) (sym c.threads_sound.ensures ∙ (ap not c.if-not-threads_sound.true)))

pub returns-then-long_thread : goal.returns-then-long_thread
unfolding record_causes bad_event at positive first
returns-then-long_thread c =
    sym (first_at 2 (record_causes _) refl (none_more 1 (record_causes (c.args.file.now)) refl (none_more 0 (record_causes (c.args.file.now)) refl refl (opposite _ _ _ c.events_legal.ensures (ap not c.if-not-events_legal.false))) (sym c.threads_sound.ensures ∙ (ap not c.if-not-threads_sound.false))) (sym c.long_thread.ensures ∙ c.if-long_thread.true))

pub returns-then-not-chains_sound : goal.returns-then-not-chains_sound
unfolding record_causes bad_event at positive first
returns-then-not-chains_sound c =
    sym (first_at 3 (record_causes _) refl (none_more 2 (record_causes (c.args.file.now)) refl (none_more 1 (record_causes (c.args.file.now)) refl (none_more 0 (record_causes (c.args.file.now)) refl refl (opposite _ _ _ c.events_legal.ensures (ap not c.if-not-events_legal.false))) (sym c.threads_sound.ensures ∙ (ap not c.if-not-threads_sound.false))) (sym c.long_thread.ensures ∙ c.if-long_thread.false)) (sym c.chains_sound.ensures ∙ (ap not c.if-not-chains_sound.true)))

pub returns : goal.returns
unfolding record_causes bad_event at positive first
returns c =
    sym (none_more 3 (record_causes _) refl (none_more 2 (record_causes (c.args.file.now)) refl (none_more 1 (record_causes (c.args.file.now)) refl (none_more 0 (record_causes (c.args.file.now)) refl refl (opposite _ _ _ c.events_legal.ensures (ap not c.if-not-events_legal.false))) (sym c.threads_sound.ensures ∙ (ap not c.if-not-threads_sound.false))) (sym c.long_thread.ensures ∙ c.if-long_thread.false)) (sym c.chains_sound.ensures ∙ (ap not c.if-not-chains_sound.false)))
