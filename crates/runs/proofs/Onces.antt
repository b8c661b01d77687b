-- Records without a repeated name: their trees are proper values, and so are those of sound records.
use mathlib.Core.Path.{◌≡◌, refl, ap, sym, ◌∙◌}
use mathlib.Core.Bool.{Bool, true, false, not}
use mathlib.Core.List.{◌++◌}
use Rattle.layout.specs.Bytes.{Octets}
use Rattle.layout.specs.Tree.{Tree, null, boolean, number, string, extension, array, object, Items, none, item, Members, empty, member, names}
use Rattle.layout.specs.Encode.{payloads, name_parts, item_parts, member_parts, payload}
use Rattle.layout.specs.Limits.{Valid, ValidItems, ValidMembers}
use Rattle.layout.specs.Sound.{Sound, SoundItems, SoundMembers}
use Rattle.layout.proofs.Words.{octets_left, octets_right}
use Rattle.layout.proofs.Decoding.{payloads_append}
use Rattle.builders.specs.Order.{distinct}
use Rattle.builders.proofs.InOrders.{rising_distinct}
use Rattle.builders.proofs.Proper.{Proper, ProperItems, ProperMembers, octets_payloads}
use Rattle.runs.specs.Plain.{repeats}
use Rattle.runs.specs.Demand2.{Once, OnceItems, OnceMembers}
use Rattle.runs.proofs.Named.{repeats_is}

mutual
  -- As it is read: no name twice is all that is asked of it.
  pub once_proper : (t : Tree) → Valid t → Once t → Octets (payload t) → Proper t
  once_proper null v s o = tt
  once_proper (boolean x) v s o = tt
  once_proper (number b) v s o = (v, o)
  once_proper (string b) v s o = (v, o)
  once_proper (extension b) v s o = o
  once_proper (array ts) v s o = once_items ts v s (octets_payloads _ (item_parts ts) o)
  once_proper (object ms) v s o =
      let ps = name_parts (names ms) in
      let q : Octets (payloads ps ++ payloads (member_parts ms)) =
      rw (payloads_append ps (member_parts ms)) at (octets_payloads _ (ps ++ member_parts ms) o) in (
        sym (repeats_is ms) ∙ ap not s.0,
        once_members ms v s.1 (octets_left (payloads ps) (payloads (member_parts ms)) q)
            (octets_right (payloads ps) (payloads (member_parts ms)) q),
      )

  once_items : (ts : Items) → ValidItems ts → OnceItems ts → Octets (payloads (item_parts ts)) → ProperItems ts
  once_items none v s o = tt
  once_items (item t ts) v s o = (
    once_proper t v.0 s.0 (octets_left (payload t) (payloads (item_parts ts)) o),
    once_items ts v.1 s.1 (octets_right (payload t) (payloads (item_parts ts)) o),
  )

  once_members : (ms : Members) → ValidMembers ms → OnceMembers ms → Octets (payloads (name_parts (names ms)))
      → Octets (payloads (member_parts ms)) → ProperMembers ms
  once_members empty v s o p = tt
  once_members (member n t ms) v s o p =
      let ps = payloads (name_parts (names ms)) in
      let qs = payloads (member_parts ms) in (
        (v.0, octets_left n ps o),
        once_proper t v.1 s.0 (octets_left (payload t) qs p),
        once_members ms v.2 s.1 (octets_right n ps o) (octets_right (payload t) qs p),
      )

repeats_none : (ms : Members) → distinct (names ms) ≡ true → repeats ms ≡ false
repeats_none ms d = go (repeats ms) (repeats_is ms ∙ d)
  where
    go : (b : Bool) → not b ≡ true → b ≡ false
    go true e = sym e
    go false e = refl

mutual
  pub proper_once : (t : Tree) → Proper t → Once t
  proper_once null p = tt
  proper_once (boolean x) p = tt
  proper_once (number b) p = tt
  proper_once (string b) p = tt
  proper_once (extension b) p = tt
  proper_once (array ts) p = proper_items_once ts p
  proper_once (object ms) p = (repeats_none ms p.0, proper_members_once ms p.1)

  proper_items_once : (ts : Items) → ProperItems ts → OnceItems ts
  proper_items_once none p = tt
  proper_items_once (item t ts) p = (proper_once t p.0, proper_items_once ts p.1)

  proper_members_once : (ms : Members) → ProperMembers ms → OnceMembers ms
  proper_members_once empty p = tt
  proper_members_once (member n t ms) p = (proper_once t p.1, proper_members_once ms p.2)

mutual
  -- Names that rise stand there once.
  pub sound_once : (t : Tree) → Sound t → Once t
  sound_once null s = tt
  sound_once (boolean x) s = tt
  sound_once (number b) s = tt
  sound_once (string b) s = tt
  sound_once (extension b) s = tt
  sound_once (array ts) s = sound_items_once ts s
  sound_once (object ms) s = (repeats_none ms (rising_distinct (names ms) s.0), sound_members_once ms s.1)

  sound_items_once : (ts : Items) → SoundItems ts → OnceItems ts
  sound_items_once none s = tt
  sound_items_once (item t ts) s = (sound_once t s.0, sound_items_once ts s.1)

  sound_members_once : (ms : Members) → SoundMembers ms → OnceMembers ms
  sound_members_once empty s = tt
  sound_members_once (member n t ms) s = (sound_once t s.0, sound_members_once ms s.1)
