-- A step of `types.Kit`'s calculus for code that holds the parts of a lent board. Assumes `Logic`.
--     lends_arrays     its arrays are lent where they lie, as two `&mut`, each for a lifetime that is made for it
use Prim.Native.Nat.{ℕ, ◌+◌}
use mathlib.Core.List.{List, [], ◌∷◌}
use seplogic.Ra.Ura.{Ura}
use base.Fraction.{full_share}
use mir.Syntax.{named}
use mir.Val.{vptr}
use base.Fml.{GName, flft, flent}
use types.Logic.{Logic}
use types.Kit.{Goal, Soaks, Seq, Item, ‵, ◌⊛◌, some, later, ◌$◌, move, use1, split, pick, await}
use types.SemTy.{Body}
use types.Tokens.{lft_new}
use denote.Memory.{mem}
use denote.Ref.{MutBor, MutRef}
use denote.Lend.{lends_ref}
use Rattle.board.proofs.Apart.{States, Names, states_at, names_at}

-- a reference to an array of the board that lies at (b, o)
abbrev pub states_ref : ℕ → ℕ → List ℕ → GName → MutBor (List ℕ)
states_ref b o s δ = record { ref_ptr = (b, o + 16 + 0); ghost_name = δ; now = s }

abbrev pub names_ref : ℕ → ℕ → List ℕ → GName → MutBor (List ℕ)
names_ref b o l ε = record { ref_ptr = (b, o + 16 + 1984); ghost_name = ε; now = l }

module _ {M : Type 1} {𝓤 : Ura M} {𝓛 : Logic 𝓤} {K : Type 0} {Γ : List (Item 𝓤)} {Q : Goal 𝓤 𝓛.H} where
  pub lends_arrays : K → Soaks Q → (s l : List ℕ) (b o : ℕ)
      → ((α β : ℕ) (δ ε : GName) → Seq K 𝓛 (‵ (flft (α ∷ []) full_share) ∷ ‵ (flft (β ∷ []) full_share)
      ∷ ‵ ((MutRef (named 0) (α ∷ []) States).own_val (states_ref b o s δ) (vptr b (o + 16 + 0) ∷ [])) ∷ ‵ ((MutRef (named 1) (β ∷ []) Names).own_val (names_ref b o l ε) (vptr b (o + 16 + 1984) ∷ []))
      ∷ ‵ (flent (α ∷ []) (Body (mem States) b (o + 16 + 0) δ)) ∷ ‵ (flent (β ∷ []) (Body (mem Names) b (o + 16 + 1984) ε)) ∷ Γ) Q)
      → Seq K 𝓛 (‵ (states_at full_share s b o) ∷ ‵ (names_at full_share l b o) ∷ Γ) Q
  lends_arrays t z s l b o k =
      lft_new t z (λ α. lft_new t z (λ β. move t (2 ∷ []) $
      use1 𝓛 (later (some (λ (δ : GName). ‵ ((MutRef (named 0) (α ∷ []) States).own_val (states_ref b o s δ) (vptr b (o + 16 + 0) ∷ [])) ⊛ ‵ (flent (α ∷ []) (Body (mem States) b (o + 16 + 0) δ))))) (lends_ref 𝓛 States (named 0) (α ∷ []) s b (o + 16 + 0)) $ await t z $ pick t (λ δ. split t $ move t (4 ∷ []) $
      use1 𝓛 (later (some (λ (ε : GName). ‵ ((MutRef (named 1) (β ∷ []) Names).own_val (names_ref b o l ε) (vptr b (o + 16 + 1984) ∷ [])) ⊛ ‵ (flent (β ∷ []) (Body (mem Names) b (o + 16 + 1984) ε))))) (lends_ref 𝓛 Names (named 1) (β ∷ []) l b (o + 16 + 1984)) $ await t z $ pick t (λ ε. split t $
      move t (5 ∷ 4 ∷ 2 ∷ 0 ∷ 3 ∷ 1 ∷ []) $ k α β δ ε))))
