-- Rings of ar against an abstract order O: where every ar step is good, ar has no ring.
use mathlib.Core.Logic.{◌⊎◌, inl, inr}
use Rattle.models.specs.Steps.{Plus, one, cons, on, stay, step}
use Rattle.models.specs.Recording.{R, W, F, Rex}
use Rattle.models.specs.Graph.{Graph}
use Rattle.models.specs.Term.{⟦◌⟧, ◌∪◌, rfₑ, rfᵢ}
use Rattle.models.specs.Imm.{bob, deps, psc, ar}
use Rattle.models.specs.Rules.{IMM, Rule5}
use Rattle.models.proofs.Closure.{collapse, mapped, Weak, weak_join, turned_to_lem}
use Rattle.models.proofs.Formed.{Formed}

module _ {E : Type 0} (G : Graph E) where
  -- A read or a fence.
  abbrev pub Entry : E → Type 0
  Entry a = G.set R a ⊎ G.set F a

  -- Steps of deps, one constructor a clause.
  pub data Deps : E → E → Type 0 where
    by_data : {a b : E} → G.«data» a b → Deps a b
    by_ctrl : {a b : E} → G.ctrl a b → Deps a b
    by_addr : {a b : E} → G.addr a b → Deps a b
    by_addr_po : {a b c : E} → G.addr a b → G.po b c → Deps a c
    by_casdep : {a b : E} → G.casdep a b → Deps a b
    by_exclusive : {a b : E} → G.set Rex a → G.po a b → Deps a b

  -- A step of ar is external rf or psc, or lies in po.
  pub data Lies : E → E → Type 0 where
    in_po : {a b : E} → G.po a b → Lies a b
    by_rf : {a b : E} → ⟦ rfₑ ⟧ G a b → Lies a b
    by_psc : {a b : E} → ⟦ psc ⟧ G a b → Lies a b

  -- Ordered, or from a write before which every entry is ordered so.
  pub data Good (O : E → E → Type 0) : E → E → Type 0 where
    direct : {y z : E} → Plus O y z → Good O y z
    behind : {y z : E} → G.set W y → ((u : E) → Entry u → G.po u y → Plus O u z) → Good O y z

  -- How far a path from the entry x has come at y.
  data At (O : E → E → Type 0) (x : E) : E → Type 0 where
    at_entry : {y : E} → Weak (Plus O) x y → Entry y → At O x y
    at_write : {u y : E} → Weak (Plus O) x y → Weak (Plus O) x u → Entry u → G.po u y → G.set W y → At O x y

module _ {E : Type 0} {G : Graph E} where
  pub deps_clause : {a b : E} → ⟦ deps ⟧ G a b → Deps G a b
  deps_clause (inl (inl (inl (inl h)))) = by_data h
  deps_clause (inl (inl (inl (inr h)))) = by_ctrl h
  deps_clause (inl (inl (inr (_, h, stay e)))) = by_addr h
  deps_clause (inl (inl (inr (_, h, step k)))) = by_addr_po h k
  deps_clause (inl (inr h)) = by_casdep h
  deps_clause (inr (_, on x, h)) = by_exclusive x h

  module _ (f : Formed G) where
    pub entry_write : {a : E} → Entry G a → G.set W a → ⊥
    entry_write (inl h) w = f.read_write h w
    entry_write (inr h) w = f.write_fence w h

    -- Barrier order and dependencies lie in po.
    bob_po : {a b : E} → ⟦ bob ⟧ G a b → G.po a b
    bob_po (inl (inl (inl (inl (_, h, on w))))) = h
    bob_po (inl (inl (inl (inr (_, on q, h))))) = h
    bob_po (inl (inl (inr (_, h, on k)))) = h
    bob_po (inl (inr (_, on k, h))) = h
    bob_po (inr (_, on w, (_, h, on v))) = h.0

    deps_po : {a b : E} → Deps G a b → G.po a b
    deps_po (by_data h) = f.data_po h
    deps_po (by_ctrl h) = f.ctrl_po h
    deps_po (by_addr h) = f.addr_po h
    deps_po (by_addr_po {a} {b} {c} h k) = f.po_trans a b c (f.addr_po h) k
    deps_po (by_casdep h) = f.casdep_po h
    deps_po (by_exclusive x h) = h

    chain_po : (a b : E) → ⟦ deps ∪ rfᵢ ⟧ G a b → G.po a b
    chain_po a b (inl h) = deps_po (deps_clause h)
    chain_po a b (inr h) = h.1

    pub chains_po : {a b : E} → Plus (⟦ deps ∪ rfᵢ ⟧ G) a b → G.po a b
    chains_po p = collapse f.po_trans (mapped chain_po p)

    -- A step along po ends in an entry or a write.
    po_ends : {a b : E} → G.po a b → Entry G b ⊎ (G.po a b × G.set W b)
    po_ends h = elim (f.classes (f.po_target h)) [ inl r ↦ inl (inl r) | inr k ↦ elim k [ inl w ↦ inr (h, w) | inr x ↦ inl (inr x) ] ]

    pub ar_lies : {a b : E} → ⟦ ar ⟧ G a b → Lies G a b
    ar_lies (inl (inl (inl (inl (inl h))))) = by_rf h
    ar_lies (inl (inl (inl (inl (inr h))))) = in_po (bob_po h)
    ar_lies (inl (inl (inl (inr (_, on r, (_, p, on w)))))) = in_po (chains_po p)
    ar_lies (inl (inl (inr (h, p)))) = in_po p
    ar_lies (inl (inr h)) = by_psc h
    ar_lies (inr (_, on s, (_, h, on w))) = in_po h

    -- It ends in an entry, or is po into a write.
    ends : {a b : E} → Lies G a b → Entry G b ⊎ (G.po a b × G.set W b)
    ends (in_po h) = po_ends h
    ends (by_rf h) = inl (inl (f.rf_read h.0))
    ends (by_psc (_, on c, (x, h, (y, e, (_, k, on d))))) = inl (inr (f.release_fence_lem (f.sc_release d)))

    module _ {O : E → E → Type 0} (good : (a b : E) → ⟦ ar ⟧ G a b → Good G O a b) where
      next : {x y z : E} → At G O x y → Good G O y z → Plus O x z
      next (at_entry o e) (direct p) = weak_join o p
      next (at_entry o e) (behind w g) = absurd (entry_write e w)
      next (at_write o o' e h v) (direct p) = weak_join o p
      next (at_write {u = u} o o' e h v) (behind w g) = weak_join o' (g u e h)

      arrive : {x y z : E} → At G O x y → Plus O x z → Entry G z ⊎ (G.po y z × G.set W z) → At G O x z
      arrive t p (inl e) = at_entry (step p) e
      arrive (at_entry o e) p (inr (h, w)) = at_write (step p) o e h w
      arrive {y = y} {z = z} (at_write {u = u} o o' e k v) p (inr (h, w)) = at_write (step p) o' e (f.po_trans u y z k h) w

      run : {x y z : E} → At G O x y → Plus (⟦ ar ⟧ G) y z → Plus O x z
      run t (one {a} {b} h) = next t (good a b h)
      run t (cons {a} {b} h p) = run (arrive t (next t (good a b h)) (ends (ar_lies h))) p

      pub ar_acyclic : ((a : E) → Plus O a a → ⊥) → Rule5 IMM G
      ar_acyclic acyclic a p = elim (turned_to_lem {s = G.po} {P = Entry G} (λ x y h. elim (ends {a = x} {b = y} (ar_lies h)) [ inl e ↦ inl e | inr k ↦ inr k.0 ]) p) [
        | inl q ↦ f.po_irreflexive (collapse f.po_trans q)
        | inr (m, e, q) ↦ acyclic m (run (at_entry (stay tt) e) q)
      ]
