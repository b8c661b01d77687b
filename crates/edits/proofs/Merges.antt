-- The members of two objects taken in turn and stored, as the code of concat goes: in byte order, of equal names the right one's.
use Prim.Native.Nat.{ℕ, ◌+◌, ◌*◌, ◌^◌, ◌≤◌, ◌<◌}
use native.Mathlib.Omega.{arith}
use mathlib.Core.Path.{◌≡◌, refl, sym, ap, ap₂, subst, ◌∙◌}
use mathlib.Core.List.{◌++◌}
use lib.ListN.{length, length-append}
use Rattle.layout.specs.Bytes.{Bytes, Octets}
use Rattle.layout.specs.Parts.{bytes_at, name_in, value_in, members_at}
use Rattle.builders.specs.Search.{Bound, least}
use Rattle.builders.specs.Weave.{behind, own_entry, stored, woven}
use Rattle.builders.specs.declared.search.Kept.TheVariants.{All}
use Rattle.layout.specs.declared.parts.MemberAt.{MemberAt}
use Rattle.layout.specs.declared.parts.Places.{Places}
use Rattle.builders.proofs.Searches.{length_members, bytes_short}
use Rattle.builders.proofs.Storing.{Stored, begins, goes, ends_early, ends_full, ends_val, ends_key, ends_count, sought_end, sought_all}
use Rattle.layout.specs.Parts.{members_of}
use Rattle.edits.specs.Members.{all_ahead, Next}
use Rattle.edits.specs.Merge.{chosen, Objects, moved_member, moved_all, in_a_row, merged, behind_all}
use Rattle.edits.specs.declared.members.Ahead.{Ahead}
use Rattle.edits.specs.declared.merge.Turn.{Turn}
use Rattle.edits.specs.declared.merge.Turn.TheVariants.{Left, Right, Both}
use Rattle.edits.proofs.Sorteds.{ObjectAt, object_at}
use Rattle.edits.proofs.Turns.{turn_found, Side, Onward, FromRight, turn_is, onward, taken_name, taken_value}
use Rattle.edits.proofs.Aheads.{Ready, AheadOf, ahead_ready, ahead_starts}
use Rattle.edits.proofs.Moves.{moved_name, moved_value, length_moved}
use Rattle.std.specs.Prelude.{Some, None, Option}

-- The two objects by their bytes.
pub objects_at : (l : Bytes) (m : ℕ) (r : Bytes) (n : ℕ) → Octets l → Octets r → Objects l m r n → ObjectAt l m × ObjectAt r n
objects_at l m r n ol or h = (
  object_at l m ol h.left_readable h.left_short h.left_object,
  object_at r n or h.right_readable h.right_short h.right_object,
)

pub few_both : (l : Bytes) (m : ℕ) (r : Bytes) (n : ℕ) → ObjectAt l m × ObjectAt r n → m + n ≤ 16384
few_both l m r n h = omega (arith, h.0.table, h.0.short, h.1.table, h.1.short)

-- What is ahead at first, as `next_in_order` asks it.
pub starts_ready : (s : Bytes) (n : ℕ) → ObjectAt s n → (a : Ahead) → a ≡ all_ahead s n → Ready a
starts_ready s n h a e = rw e (ahead_ready s n All None (all_ahead s n) (ahead_starts s n All h))

module _ (l : Bytes) (m : ℕ) (r : Bytes) (n : ℕ) where
  module _ (o : Bytes) (to : Places) where
    -- The loop: `i` members of both in byte order are stored, up to the last name taken, and the rest is to come.
    pub record Merging (out : Bytes) (x y : Option (MemberAt × Ahead)) (at : Places) (i : ℕ) : Type 0 where
      pub right_object : ObjectAt r n
      pub last : Bound
      pub kept : Stored (name_in (r ++ l)) (value_in (r ++ l)) own_entry (in_a_row l m r n) o to out last at i
      pub left : Side l m last x
      pub right : Side r n last y

    pub merging_starts : ObjectAt l m → ObjectAt r n → (a c : Ahead) → a ≡ all_ahead l m → c ≡ all_ahead r n
        → (x y : Option (MemberAt × Ahead)) → Next l All None a x → Next r All None c y → Merging o x y to 0
    merging_starts hl hr a c el er x y hx hy =
        record {
          right_object = hr;
          last = None;
          kept = begins (name_in (r ++ l)) (value_in (r ++ l)) own_entry (in_a_row l m r n) o to;
          left = record { from = a; ahead = rw el (ahead_starts l m All hl); next = hx };
          right = record { from = c; ahead = rw er (ahead_starts r n All hr); next = hy };
        }

    -- The places are near, and so near enough for a member to be stored there.
    pub merging_within : (out : Bytes) (x y : Option (MemberAt × Ahead)) (at : Places) (i : ℕ) → Merging out x y at i → i ≤ m + n → m + n ≤ 16384
        → (to.key_jentry < 2 ^ 32) × (to.val_jentry < 2 ^ 32) × (to.key < 2 ^ 32) × (to.val < 2 ^ 32)
        → (at.key_jentry < 2 ^ 48) × (at.val_jentry < 2 ^ 48) × (at.key < 2 ^ 48) × (at.val < 2 ^ 48)
    merging_within out x y at i h k f w = (
      omega (arith, h.kept.key_jentry),
      omega (arith, h.kept.val_jentry),
      omega (arith, h.kept.near_key),
      omega (arith, h.kept.near_val),
    )

    pub merging_near : (out : Bytes) (x y : Option (MemberAt × Ahead)) (at : Places) (i : ℕ) → Merging out x y at i → i ≤ m + n → m + n ≤ 16384
        → (to.key_jentry < 2 ^ 32) × (to.val_jentry < 2 ^ 32) × (to.key < 2 ^ 32) × (to.val < 2 ^ 32)
        → (at.key_jentry < 2 ^ 60) × (at.val_jentry < 2 ^ 60) × (at.key < 2 ^ 60) × (at.val < 2 ^ 60)
    merging_near out x y at i h k f w =
        let b = merging_within out x y at i h k f w in
        (omega (arith, b.0), omega (arith, b.1), omega (arith, b.2), omega (arith, b.3))

    module _ (out : Bytes) (x y : Option (MemberAt × Ahead)) (at : Places) (i : ℕ) (h : Merging out x y at i) where
      -- What put_merged promises: the members of both are stored, and the places are those behind them.
      abbrev AllStored : Type 0
      AllStored =
          (at ≡ behind_all l m r n to)
          × (out ≡ woven (name_in (r ++ l)) (value_in (r ++ l)) own_entry o to.key_jentry to.val_jentry to.key to.val (merged l m r n))

      places_end : length (merged l m r n) ≤ i → at ≡ behind_all l m r n to
      places_end e =
          rw (
            ← ends_val (name_in (r ++ l)) (value_in (r ++ l)) own_entry (in_a_row l m r n) o to out h.last at i h.kept e,
            ← ends_key (name_in (r ++ l)) (value_in (r ++ l)) own_entry (in_a_row l m r n) o to out h.last at i h.kept e,
            ← ends_count (name_in (r ++ l)) (value_in (r ++ l)) own_entry (in_a_row l m r n) o to out h.last at i h.kept e,
            ← val_end e,
          )
        where
          val_end : length (merged l m r n) ≤ i → at.val_jentry ≡ to.val_jentry + 4 * length (merged l m r n)
          val_end e = omega (arith, h.kept.val_jentry, h.kept.sought.count)

      -- No more turns are taken than there are members.
      row_length : length (in_a_row l m r n) ≡ n + m
      unfolding members_at
      row_length =
          length-append (members_at r r (members_of r n) n) (moved_all (length r) (members_at l l (members_of l m) m))
          ∙ ap₂ ◌+◌ (length_members r r _ _ _ _ n) (length_moved (length r) (members_at l l (members_of l m) m) ∙ length_members l l _ _ _ _ m)

      pub merging_full : m + n ≤ i → AllStored
      merging_full e =
          let few : length (in_a_row l m r n) ≤ m + n = omega (arith, row_length) in (
            places_end (sought_all (name_in (r ++ l)) (in_a_row l m r n) (m + n) i few e),
            ends_full (name_in (r ++ l)) (value_in (r ++ l)) own_entry (in_a_row l m r n) o to out h.last at i h.kept (m + n) few e,
          )

      module _ (t : Option Turn) (e : t ≡ chosen l r x y) where
        -- What the turn takes is what the search over both finds next.
        found : turn_found (length r) t ≡ least (name_in (r ++ l)) h.last None (in_a_row l m r n)
        found = turn_is l m r n h.right_object h.last x y h.left h.right t e

        leaves : Onward l m r n x y t
        leaves = onward l m r n h.right_object h.last x y h.left h.right t e

        -- What is ahead of the sides whose next member is to be looked for.
        pub ready_left : (w : MemberAt) (a : Ahead) → t ≡ Some (Left w a) → Ready a
        ready_left w a q = let p : Onward l m r n x y (Some (Left w a)) = subst (Onward l m r n x y) q leaves in ahead_ready l m All _ a p.0

        pub ready_right : (w : MemberAt) (c : Ahead) → t ≡ Some (Right w c) → Ready c
        ready_right w c q = let p : Onward l m r n x y (Some (Right w c)) = subst (Onward l m r n x y) q leaves in ahead_ready r n All _ c p.1

        pub ready_both : (w : MemberAt) (a c : Ahead) → t ≡ Some (Both w a c) → Ready a × Ready c
        ready_both w a c q =
            let p : Onward l m r n x y (Some (Both w a c)) = subst (Onward l m r n x y) q leaves in
            (ahead_ready l m All _ a p.0, ahead_ready r n All _ c p.1)

        -- The next member of a side, looked for behind the name taken.
        anew : (s : Bytes) (k : ℕ) (a : Ahead) (z : Option (MemberAt × Ahead)) (p w : Bytes) → p ≡ w → AheadOf s k All (Some w) a → Next s All (Some p) a z
            → Side s k (Some w) z
        anew s k a z p w q g f = record { from = a; ahead = g; next = rw q at f }

        module _ (w : MemberAt) (at' : Places) (out' : Bytes) where
          -- A member of the left side is stored, as one that was moved; or one of the right side, as it stands.
          abbrev KeptOn : Bytes → Type 0
          KeptOn name = Stored (name_in (r ++ l)) (value_in (r ++ l)) own_entry (in_a_row l m r n) o to out' (Some name) at' (i + 1)

          kept_left : (a : Ahead) → t ≡ Some (Left w a)
              → (at' ≡ behind (name_in l w) (value_in l w) at)
              × (out' ≡ stored (name_in l) (value_in l) own_entry out at.key_jentry at.val_jentry at.key at.val w)
              → KeptOn (name_in l w)
          kept_left a q p =
              goes (name_in (r ++ l)) (value_in (r ++ l)) own_entry (in_a_row l m r n) o to out h.last at i h.kept
              (turn_found (length r) t) found (moved_member (length r) w) (name_in l w) out' at' (ap (turn_found (length r)) q)
              (rw (moved_name r l w, moved_value r l w) p) (sym (moved_name r l w))
              (bytes_short (r ++ l) (moved_member (length r) w).key) (bytes_short (r ++ l) (moved_member (length r) w).val)

          kept_right : FromRight w t → turn_found (length r) t ≡ Some w
              → (at' ≡ behind (name_in r w) (value_in r w) at)
              × (out' ≡ stored (name_in r) (value_in r) own_entry out at.key_jentry at.val_jentry at.key at.val w)
              → KeptOn (name_in r w)
          kept_right f q p =
              let sn = taken_name l m r n h.right_object h.last x y h.left h.right t e w f in
              let sv = taken_value l m r n h.right_object h.last x y h.left h.right t e w f in
              goes (name_in (r ++ l)) (value_in (r ++ l)) own_entry (in_a_row l m r n) o to out h.last at i h.kept
              (turn_found (length r) t) found w (name_in r w) out' at' q
              (rw (sn, sv) p) (sym sn) (bytes_short (r ++ l) w.key) (bytes_short (r ++ l) w.val)

          -- In the code's terms, where the ways meet.
          module _ (out₂ : Bytes) (x₂ y₂ : Option (MemberAt × Ahead)) (at₂ : Places) (eo : out₂ ≡ out') (ea : at₂ ≡ at') (p : Bytes) where
            pub goes_left : (a : Ahead) (x' : Option (MemberAt × Ahead)) → t ≡ Some (Left w a) → p ≡ bytes_at l w.key
                → (at' ≡ behind (name_in l w) (value_in l w) at)
                × (out' ≡ stored (name_in l) (value_in l) own_entry out at.key_jentry at.val_jentry at.key at.val w)
                → Next l All (Some p) a x' → x₂ ≡ x' → y₂ ≡ y → Merging out₂ x₂ y₂ at₂ (i + 1)
            goes_left a x' q ep s f ex ey =
                let g : Onward l m r n x y (Some (Left w a)) = subst (Onward l m r n x y) q leaves in
                rw (eo, ea, ex, ey)
                (record {
                  right_object = h.right_object;
                  last = Some (name_in l w);
                  kept = kept_left a q s;
                  left = anew l m a x' p (name_in l w) ep g.0 f;
                  right = g.1;
                })

            pub goes_right : (c : Ahead) (y' : Option (MemberAt × Ahead)) → t ≡ Some (Right w c) → p ≡ bytes_at r w.key
                → (at' ≡ behind (name_in r w) (value_in r w) at)
                × (out' ≡ stored (name_in r) (value_in r) own_entry out at.key_jentry at.val_jentry at.key at.val w)
                → Next r All (Some p) c y' → x₂ ≡ x → y₂ ≡ y' → Merging out₂ x₂ y₂ at₂ (i + 1)
            goes_right c y' q ep s f ex ey =
                let g : Onward l m r n x y (Some (Right w c)) = subst (Onward l m r n x y) q leaves in
                rw (eo, ea, ex, ey)
                (record {
                  right_object = h.right_object;
                  last = Some (name_in r w);
                  kept = kept_right (subst (FromRight w) (sym q) refl) (ap (turn_found (length r)) q) s;
                  left = g.0;
                  right = anew r n c y' p (name_in r w) ep g.1 f;
                })

            pub goes_both : (a c : Ahead) (x' y' : Option (MemberAt × Ahead)) → t ≡ Some (Both w a c) → p ≡ bytes_at r w.key
                → (at' ≡ behind (name_in r w) (value_in r w) at)
                × (out' ≡ stored (name_in r) (value_in r) own_entry out at.key_jentry at.val_jentry at.key at.val w)
                → Next l All (Some p) a x' → Next r All (Some p) c y' → x₂ ≡ x' → y₂ ≡ y'
                → Merging out₂ x₂ y₂ at₂ (i + 1)
            goes_both a c x' y' q ep s f k ex ey =
                let g : Onward l m r n x y (Some (Both w a c)) = subst (Onward l m r n x y) q leaves in
                rw (eo, ea, ex, ey)
                (record {
                  right_object = h.right_object;
                  last = Some (name_in r w);
                  kept = kept_right (subst (FromRight w) (sym q) refl) (ap (turn_found (length r)) q) s;
                  left = anew l m a x' p (name_in r w) ep g.0 f;
                  right = anew r n c y' p (name_in r w) ep g.1 k;
                })

        -- There is no next one: all are stored.
        pub merging_end : t ≡ None → AllStored
        merging_end q =
            let p : turn_found (length r) t ≡ None = ap (turn_found (length r)) q in (
              places_end (sought_end (name_in (r ++ l)) (in_a_row l m r n) h.last i h.kept.sought (turn_found (length r) t) found p),
              ends_early (name_in (r ++ l)) (value_in (r ++ l)) own_entry (in_a_row l m r n) o to out h.last at i h.kept (turn_found (length r) t) found p,
            )
