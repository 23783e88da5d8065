-- Laws of the calls' answers: bytes that go to an output, the bytes of steps, and the number of a model.
use mathlib.Core.Path.{◌≡◌, refl, sym, ap, ◌∙◌}
use mathlib.Core.List.{List, [], ◌∷◌, ◌++◌, append_assoc}
use Prim.Native.Nat.{ℕ, zero, suc, ◌+◌, ◌<◌, ◌≤◌}
use native.Mathlib.Numerals.{add-one}
use lib.ListN.{length, get_or, take}
use lib.Seq.{take-suc}
use Rattle.std.specs.Prelude.{Result, Ok, Err, IfOk}
use Rattle.refusal.specs.Refusal.{number}
use Rattle.refusal.specs.declared.Refusal.{Refusal}
use Rattle.refusal.proofs.RefusalLaws.{number_not_0}
use Rattle.output.specs.Output.{Fills}
use Rattle.output.proofs.FillLaws.{fills_refused, fills_few}
use Rattle.probe.specs.Calls.{coded, coded_for, Stored, bytes_of}

-- A refusal is answered alone.
refused_alone : (rule n written : ℕ) → (n ≡ 0 → ⊥) → coded n 0 0 ≡ coded_for rule n written
unfolding coded_for
refused_alone rule zero written d = absurd (d refl)
refused_alone rule (suc n) written d = refl

-- What fills an output is stored there, and a refusal leaves it.
module _ {k rule : ℕ} {bytes out : List ℕ} {left : List ℕ} {r : ℕ} where
  pub stored_ok : {n : ℕ} → Fills k bytes out (Ok n) left → r ≡ coded 0 rule n → Stored k rule bytes out r left
  unfolding coded_for
  stored_ok w a =
      record { answer = a ∙ ap (coded 0 rule) w.written ∙ ap (λ (j : ℕ). coded_for rule j (length bytes)) w.refused; output = w.output }

  pub stored_err : {e : Refusal} → Fills k bytes out (Err e) left → r ≡ coded (number e) 0 0 → Stored k rule bytes out r left
  stored_err {e} w a =
      record { answer = a ∙ refused_alone rule (number e) (length bytes) (number_not_0 e) ∙ ap (λ (j : ℕ). coded_for rule j (length bytes)) w.refused; output = w.output }

pub stored_refused : {k rule : ℕ} {bytes out : List ℕ} {r : ℕ} (e : Refusal) → number e ≡ k → r ≡ coded k 0 0 → Stored k rule bytes out r out
stored_refused {k} {bytes = bytes} {out} e p a = stored_err (fills_refused k bytes out e p) (a ∙ ap (λ (j : ℕ). coded j 0 0) (sym p))

-- At most m bytes were written.
pub few : {k : ℕ} {bytes out : List ℕ} {r : Result ℕ Refusal} {left : List ℕ} (m : ℕ) → Fills k bytes out r left → (k ≡ 0 → length bytes ≤ m)
    → IfOk r (λ n. n ≤ m)
few {k} {bytes} {out} {r = Ok n} {left} m w h = fills_few k bytes out (Ok n) left w m h n refl
few {r = Err e} m w h = tt

-- The bytes of steps, step by step.
bytes_last : (ss : List (List ℕ)) (s : List ℕ) → bytes_of (ss ++ (s ∷ [])) ≡ bytes_of ss ++ (get_or s 0 0 ∷ get_or s 1 0 ∷ get_or s 2 0 ∷ [])
bytes_last [] s = refl
bytes_last (t ∷ ss) s = ap (λ (l : List ℕ). get_or t 0 0 ∷ get_or t 1 0 ∷ get_or t 2 0 ∷ l) (bytes_last ss s)

pub bytes_more : (ss : List (List ℕ)) (k : ℕ) → k < length ss → {w x y z : List ℕ} → let s = get_or ss k [] in
    w ≡ bytes_of (take k ss) → x ≡ w ++ (get_or s 0 0 ∷ []) → y ≡ x ++ (get_or s 1 0 ∷ []) → z ≡ y ++ (get_or s 2 0 ∷ []) → z ≡ bytes_of (take (k + 1) ss)
bytes_more ss k h d a b c =
    let s = get_or ss k [] in
    let before = bytes_of (take k ss) in
    c
    ∙ ap (λ (l : List ℕ). l ++ (get_or s 2 0 ∷ [])) (b ∙ ap (λ (l : List ℕ). l ++ (get_or s 1 0 ∷ [])) (a ∙ ap (λ (l : List ℕ). l ++ (get_or s 0 0 ∷ [])) d) ∙ append_assoc before (get_or s 0 0 ∷ []) (get_or s 1 0 ∷ []))
    ∙ append_assoc before (get_or s 0 0 ∷ get_or s 1 0 ∷ []) (get_or s 2 0 ∷ [])
    ∙ sym (bytes_last (take k ss) s)
    ∙ ap bytes_of (sym (take-suc ss k [] h) ∙ ap (λ (j : ℕ). take j ss) (sym (add-one k)))
