-- What the types of an event say, and what may be applied, make an event with a spelling.
use Rattle.std.proofs.Common.{◌≡◌, ◌∙◌, ap, sym, map, ℕ, ◌+◌, ◌<◌, ◌^◌, List, [], ◌∷◌, ◌++◌, length, take, get_or, append_assoc}
use Rattle.std.proofs.lemmas.List.{append-nil, map-append, take_more}
use Rattle.std.proofs.lemmas.List.Concat.{flat_map-append, flat_map-cons}
use Rattle.std.specs.Prelude.{All, flat_map}
use Rattle.std.specs.Str.{IsUtf8}
use Rattle.std.proofs.lemmas.List.Elements.{All-map}
use Rattle.arrayvec.specs.ArrayString.{ArrayString}
use Rattle.body_fields.specs.declared.creations.Creation.{Creation}
use Rattle.sealed_core.specs.Host.{HostView, EventView, Created, BidKept, Closed, Withdrawn, CanApply, creation_view, text}
use Rattle.host_journal.specs.Reading.{KeepsRules}
use Rattle.host_journal.specs.Spelling.{FitsTypes, IsEvent, text_bytes}

-- a creation of the code fits the types of its fields
pub creation_fits : (moment : ℕ) (c : Creation) → moment < 2 ^ 64 → c.deadline < 2 ^ 64 → IsUtf8 (text c.title) → All (λ name. IsUtf8 (text name)) c.members.items
    → All (λ name. IsUtf8 (text name)) c.items.items → FitsTypes (Created moment (creation_view c))
creation_fits moment c now dated title members items = (now, dated, title, All-map IsUtf8 text c.members.items members, All-map IsUtf8 text c.items.items items)

-- what fits its types and keeps its rules has a spelling
pub fits_rules : (e : EventView) → FitsTypes e → KeepsRules e → IsEvent e
fits_rules (Created moment c) fits checked = (
  fits.0,
  record {
    facts = checked.facts;
    member_names = checked.member_names;
    item_names = checked.item_names;
    title = (checked.title, fits.2);
    members = λ k d lt. (checked.members k d lt, fits.3 k d lt);
    items = λ k d lt. (checked.items k d lt, fits.4 k d lt);
    tag = checked.tag;
    deadline = fits.1;
  },
)
fits_rules (BidKept moment id member turn given) fits kept = fits
fits_rules (Closed moment id) fits kept = fits
fits_rules (Withdrawn moment id member turn) fits kept = fits

-- what fits its types and may be applied has a spelling
pub fits_event : (h : HostView) (e : EventView) → FitsTypes e → CanApply h e → IsEvent e
fits_event h (Created moment c) fits can =
    let checked = can.1.1 in (
      fits.0,
      record {
        facts = checked.facts;
        member_names = checked.member_names;
        item_names = checked.item_names;
        title = (checked.title, fits.2);
        members = λ k d lt. (checked.members k d lt, fits.3 k d lt);
        items = λ k d lt. (checked.items k d lt, fits.4 k d lt);
        tag = checked.tag;
        deadline = fits.1;
      },
    )
fits_event h (BidKept moment id member turn given) fits can = fits
fits_event h (Closed moment id) fits can = fits
fits_event h (Withdrawn moment id member turn) fits can = fits

-- the names after a front, with one more
pub names_more : (front : List ℕ) (names : List ArrayString) (i : ℕ) (name : ArrayString) → i < length names → name ≡ get_or names i name
    → (front ++ flat_map text_bytes (map text (take i names))) ++ text_bytes (text name) ≡ front ++ flat_map text_bytes (map text (take (i + 1) names))
names_more front names i name lt is =
    let more : take (i + 1) names ≡ take i names ++ name ∷ [] = take_more names i name lt ∙ ap (λ (n : ArrayString). take i names ++ n ∷ []) (sym is) in
    let last : flat_map text_bytes (text name ∷ []) ≡ text_bytes (text name) = flat_map-cons text_bytes (text name) [] ∙ append-nil (text_bytes (text name)) in
    append_assoc front (flat_map text_bytes (map text (take i names))) (text_bytes (text name))
    ∙ ap (λ (t : List ℕ). front ++ t) (ap (λ (t : List ℕ). flat_map text_bytes (map text (take i names)) ++ t) (sym last) ∙ sym (flat_map-append text_bytes (map text (take i names)) (text name ∷ [])) ∙ ap (flat_map text_bytes) (sym (map-append text (take i names) (name ∷ [])) ∙ ap (map text) (sym more)))
