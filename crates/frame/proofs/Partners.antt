-- On a full board units and potential units are the same, and a good offset is one that puts the unit on a partner. Assumes nothing.
use Prim.Native.Nat.{ℕ}
use mathlib.Core.Path.{◌≡◌}
use mathlib.Core.Logic.{inr, ◌≢◌, ⊎_elim}
use Rattle.frame.specs.Frame.{Relation, States, Symmetric, here, on, Link, SameUnit, SamePotential, Parted, Full, NoInnerWall, Partner}
use Rattle.frame.proofs.Offset.{Placement, Good}
use Rattle.frame.proofs.Chains.{chain_then, chain_map, unit_back, unit_potential}

module _ (Nb : Relation) (symmetric : Symmetric Nb) (s : States) (full : Full Nb s) where
  connected : (a b e : ℕ) → Nb a b e → s e ≢ 2 → s e ≡ 1
  connected a b e n z = ⊎_elim (λ q. q) (λ (q : s e ≡ 2). absurd (z q)) (full a b e n)

  potential_unit : {a b : ℕ} → SamePotential Nb s a b → SameUnit Nb s a b
  potential_unit j = chain_map {R = Link Nb (λ e. s e ≢ 2)} {Q = Link Nb (λ e. s e ≡ 1)} (λ a b r. (r.0, r.1, connected a b r.0 r.1 r.2)) j

  module _ (T : ℕ → ℕ → Type 0) (placed : Placement Nb T) (f t : ℕ) (start : T f t) where
    pub partner_good : NoInnerWall Nb s → Partner Nb s T f t → Good Nb s f T
    partner_good law w =
        record {
          tried = record {
            falls = λ a j. let x = w.onto a j in (x.0, x.1, λ k. w.different (chain_then k (unit_back Nb symmetric s x.2)));
            meets = (
              f,
              t,
              here,
              start,
              let q = w.shares in
                  inr (record {
                    near = q.0;
                    far = q.1;
                    wall = q.2;
                    near_in = unit_potential Nb symmetric s q.3;
                    between = q.5;
                    is_wall = q.6;
                    far_in = unit_potential Nb symmetric s (unit_back Nb symmetric s q.4);
                  }),
            );
          };
          joins = λ a b x y e e' ja jb n ta tb n' q.
              let xa = w.onto a ja in
              let yb = w.onto b jb in
              let ex : xa.0 ≡ x = placed.one a xa.0 x xa.1 ta in
              let ey : yb.0 ≡ y = placed.one b yb.0 y yb.1 tb in
              law x y e' n' q (rw (← ex, ← ey) (chain_then (unit_back Nb symmetric s xa.2) yb.2));
          parts = λ a x y e' ja ta n' q.
              let xa = w.onto a ja in
              let ex : xa.0 ≡ x = placed.one a xa.0 x xa.1 ta in
              let jx : SameUnit Nb s t x = rw (← ex) xa.2 in
              let b = w.from y (on jx (e', n', q)) in
              let n = placed.comes a b.0 x y e' ta b.1 n' in
              (b.0, n.0, b.1, n.1, λ z. law a b.0 n.0 n.1 z (chain_then (unit_back Nb symmetric s ja) b.2));
        }

    module _ (good : Good Nb s f T) where
      goes : {a : ℕ} → SameUnit Nb s f a → (x : ℕ) × T a x × SameUnit Nb s t x
      goes here = (t, start, here)
      goes (on {b = a} {c = b} j l) =
          let x = goes j in
          let y = good.tried.falls b (on j l) in
          let n = placed.keeps a b x.0 y.0 l.0 x.1 y.1 l.1 in
          let z = good.joins a b x.0 y.0 l.0 n.0 j (on j l) l.1 x.1 y.1 n.1 in
          (y.0, y.1, on x.2 (n.0, n.1, connected x.0 y.0 n.0 n.1 z))

      returns : {x : ℕ} → SameUnit Nb s t x → (a : ℕ) × T a x × SameUnit Nb s f a
      returns here = (f, start, here)
      returns (on {b = x} {c = y} j l) =
          let a = returns j in
          let b = good.parts a.0 x y l.0 a.2 a.1 l.1 l.2 in
          (b.0, b.2, on a.2 (b.1, b.3, connected a.0 b.0 b.1 b.3 b.4))

      pub good_partner : Partner Nb s T f t
      good_partner =
          let m = good.tried.meets in
          let x = goes m.2 in
          let ex : x.0 ≡ m.1 = placed.one m.0 x.0 m.1 x.1 m.3 in
          let jx : SameUnit Nb s t m.1 = rw (← ex) x.2 in
          let z = good.tried.falls f here in
          let ez : z.0 ≡ t = placed.one f z.0 t z.1 start in
          let different : (SameUnit Nb s f t → ⊥) = rw ez at z.2 in
          record {
            onto = λ a j. goes j;
            from = λ x j. returns j;
            different = different;
            shares =
                ⊎_elim
                (λ (k : SamePotential Nb s f m.1). absurd (different (chain_then (potential_unit k) (unit_back Nb symmetric s jx))))
                (λ (k : Parted Nb s f m.1).
                (k.near, k.far, k.wall, potential_unit k.near_in, chain_then jx (unit_back Nb symmetric s (potential_unit k.far_in)), k.between, k.is_wall))
                m.4;
          }
