use Rattle.std.proofs.Common.{ℕ, List, Some, ◌≡◌, ◌≢◌, ◌<◌, ◌∙◌, ap, sym, refl, inl, inr, length}
use Rattle.std.proofs.Common.{get_or, arith}
use Rattle.std.specs.Prelude.{slice_get, slice_set}
use Rattle.std.proofs.lemmas.Option.{slice_get-get_or, slice_get_within}
use Rattle.dos_world.specs.declared.Owner.TheVariants.{Of}
use Rattle.page_store.specs.Store.{Store, owner_at}
use Rattle.quantum_run.specs.declared.pack.Pack.{Pack}
use Rattle.group_rounds.specs.Handing.{IsFor}
use Rattle.group_rounds.proofs.packs.hand_page.Goals as goal

-- no pack is for a frame whose owner doesn't start
for_none : (ts : List ℕ) (s : Store) (frame tid : ℕ) → owner_at s frame ≡ Of tid
    → ((place : ℕ) → slice_get ts place ≢ Some tid) → (place t : ℕ) → IsFor ts s frame place t → ⊥
for_none ts s frame tid owner none place t is =
    none place (is.0 ∙ ap Some (same t tid (sym is.1 ∙ owner)))
  where
    same : (a b : ℕ) → Of a ≡ Of b → a ≡ b
    same a b q = cc

-- the pack at a starter's place
found_at : (ts : List ℕ) (packs : List Pack) (place tid : ℕ) (pack : Pack)
    → length packs ≡ length ts → slice_get ts place ≡ Some tid → pack ≡ get_or packs place pack
    → slice_get packs place ≡ Some pack
found_at ts packs place tid pack level at is =
    let low : place < length ts = slice_get_within ts place tid at in
    slice_get-get_or packs place pack (omega arith) ∙ ap Some (sym is)

pub take-page-requires : goal.take-page-requires
take-page-requires c = c.requires.home

pub add_page-requires : goal.add_page-requires
add_page-requires c =
    let room = c.requires.room c.in-Some.place c.index_mut.result.now
    (found_at c.args.starters.now c.args.packs.now.items c.in-Some.place c.in-Of.tid
    c.index_mut.result.now c.requires.level c.in-Some.ensures c.index_mut.ensures.value) in
    record { room = room.0; other = room.1 }

pub returns-in_default : goal.returns-in_default
returns-in_default c = record {
  goes = inl (record {
    none = λ place t is. c.in_default.not-Of t (c.owner.ensures ∙ is.1);
    frames = refl;
    packs_are = refl;
  });
  room = refl;
}

pub returns-in_default-place_of : goal.returns-in_default-place_of
returns-in_default-place_of c = record {
  goes = inl (record {
    none = for_none c.args.starters.now c.args.frames.now c.args.frame c.in-Of.tid
        (sym c.owner.ensures ∙ c.in-Of.is) c.in_default-place_of.ensures;
    frames = refl;
    packs_are = refl;
  });
  room = refl;
}

pub returns : goal.returns
returns c = record {
  goes = inr (record {
    place = c.in-Some.place;
    thread = c.in-Of.tid;
    for = (c.in-Some.ensures, sym c.owner.ensures ∙ c.in-Of.is);
    page = c.take-page.result;
    was = c.take-page.ensures.page;
    pack = c.index_mut.result.now;
    found = found_at c.args.starters.now c.args.packs.now.items c.in-Some.place c.in-Of.tid
        c.index_mut.result.now c.requires.level c.in-Some.ensures c.index_mut.ensures.value;
    frames = c.take-page.ensures.away;
    packs_are = ap (slice_set c.args.packs.now.items c.in-Some.place) c.add_page.ensures;
  });
  room = refl;
}
