-- A step of `types.Kit`'s calculus for code that holds the parts of a lent puzzle. Assumes `Logic`.
--     lends_arrays     its arrays are lent where they lie, two as `&mut` and two as `&`, for lifetimes that are made for it
use Prim.Native.Nat.{ℕ, ◌+◌}
use mathlib.Core.List.{List, [], ◌∷◌}
use seplogic.Ra.Ura.{Ura}
use base.Fraction.{full_share}
use mir.Syntax.{named, w16}
use mir.Val.{vptr}
use base.Fml.{GName, flft, flent}
use types.Logic.{Logic}
use types.Kit.{Goal, Soaks, Seq, Item, ‵, ◌⊛◌, later, ◌$◌, move, use1, split, await}
use types.SemTy.{Body}
use types.Tokens.{lft_new}
use denote.Builtin.{u16}
use denote.Copied.{uint_Copied, Array-Copied}
use denote.Memory.{mem}
use denote.Ref.{Bor, MutRef, ShrRef}
use denote.Lend.{lends_free}
use Rattle.board.proofs.Apart.{States, Names, states_at, names_at}
use Rattle.board.proofs.Steps.{states_ref, names_ref}
use Rattle.board.proofs.Steps as steps
use Rattle.puzzle.specs.declared.Puzzle.{Puzzle}
use Rattle.puzzle.proofs.Apart.{Walls, Clues, given_at, clues_at}

-- references to the arrays that are only read
abbrev pub given_ref : ℕ → ℕ → List ℕ → Bor (List ℕ)
given_ref b o s = record { ref_ptr = (b, o + 5976); now = s }

abbrev pub clues_ref : ℕ → ℕ → List ℕ → Bor (List ℕ)
clues_ref b o s = record { ref_ptr = (b, o + 9952); now = s }

module _ {M : Type 1} {𝓤 : Ura M} {𝓛 : Logic 𝓤} {K : Type 0} {Γ : List (Item 𝓤)} {Q : Goal 𝓤 𝓛.H} where
  pub lends_arrays : K → Soaks Q → (h : Puzzle) (b o : ℕ)
      → ((α β ν : ℕ) (δ ε : GName) → Seq K 𝓛 (‵ (flft (α ∷ []) full_share) ∷ ‵ (flft (β ∷ []) full_share) ∷ ‵ (flft (ν ∷ []) full_share)
      ∷ ‵ ((MutRef (named 0) (α ∷ []) States).own_val (states_ref b (o + 0) h.board.book.states δ) (vptr b (o + 0 + 16 + 0) ∷ [])) ∷ ‵ ((MutRef (named 1) (β ∷ []) Names).own_val (names_ref b (o + 0) h.board.book.names ε) (vptr b (o + 0 + 16 + 1984) ∷ []))
      ∷ ‵ ((ShrRef (named 2) (ν ∷ []) Walls).own_val (given_ref b o h.given) (vptr b (o + 5976) ∷ [])) ∷ ‵ ((ShrRef (named 2) (ν ∷ []) Clues).own_val (clues_ref b o h.clues) (vptr b (o + 9952) ∷ []))
      ∷ ‵ (flent (α ∷ []) (Body (mem States) b (o + 0 + 16 + 0) δ)) ∷ ‵ (flent (β ∷ []) (Body (mem Names) b (o + 0 + 16 + 1984) ε))
      ∷ ‵ (flent (ν ∷ []) (given_at full_share h.given b o)) ∷ ‵ (flent (ν ∷ []) (clues_at full_share h.clues b o)) ∷ Γ) Q)
      → Seq K 𝓛 (‵ (states_at full_share h.board.book.states b (o + 0)) ∷ ‵ (names_at full_share h.board.book.names b (o + 0)) ∷ ‵ (given_at full_share h.given b o) ∷ ‵ (clues_at full_share h.clues b o) ∷ Γ) Q
  lends_arrays t z h b o k =
      steps.lends_arrays t z h.board.book.states h.board.book.names b (o + 0) (λ α β δ ε. lft_new t z (λ ν. move t (7 ∷ []) $
      use1 𝓛 (later (‵ ((ShrRef (named 2) (ν ∷ []) Walls).own_val (given_ref b o h.given) (vptr b (o + 5976) ∷ [])) ⊛ ‵ (flent (ν ∷ []) (given_at full_share h.given b o))))
      (lends_free 𝓛 Walls (named 2) (ν ∷ []) full_share h.given b (o + 5976) ((Array-Copied 𝓛 u16 (uint_Copied 𝓛 w16) tt 1984).lends full_share h.given b (o + 5976))) $ await t z $ split t $ move t (9 ∷ []) $
      use1 𝓛 (later (‵ ((ShrRef (named 2) (ν ∷ []) Clues).own_val (clues_ref b o h.clues) (vptr b (o + 9952) ∷ [])) ⊛ ‵ (flent (ν ∷ []) (clues_at full_share h.clues b o))))
      (lends_free 𝓛 Clues (named 2) (ν ∷ []) full_share h.clues b (o + 9952) ((Array-Copied 𝓛 u16 (uint_Copied 𝓛 w16) tt 1024).lends full_share h.clues b (o + 9952))) $ await t z $ split t $
      -- [the clues' loan; what is left; the given walls'; what is left; ν; α; β; the states' loan; the names'; what is left of each]
      move t (5 ∷ 6 ∷ 4 ∷ 7 ∷ 8 ∷ 2 ∷ 0 ∷ 9 ∷ 10 ∷ 3 ∷ 1 ∷ []) $ k α β ν δ ε))
