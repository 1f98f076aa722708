use Rattle.std.proofs.Common.{◌≡◌, ◌∙◌, Bool, true, false, Some, option_map}
use Rattle.std.proofs.Common.{refl, sym, ap, string_bytes}
use Rattle.std.specs.Bool.{Decides}
use Rattle.std.specs.BTreeMap.{get_by_text}
use Rattle.std.specs.Str.{bytes_eq}
use Rattle.std.proofs.lemmas.Map.{update_same, update_other}
use Rattle.std.proofs.lemmas.Map.Text.{btree_map_updates_text}
use Rattle.std.proofs.lemmas.Slice.Eq.{bytes_eq-Decides}
use Rattle.dos_io.proofs.memory.MemoryFiles.add.Goals as goal

equal : {P : Type 0} (r : Bool) → Decides r P → P → r ≡ true
equal true d p = refl
equal false d p = d.1 p

differs : {P : Type 0} (r : Bool) → Decides r P → ¬ P → r ≡ false
differs true d refutes = absurd (refutes (d.0 refl))
differs false d refutes = refl

pub returns-clause-content : goal.returns-clause-content
returns-clause-content c =
    let key = string_bytes c.in_ok-key.key in
    let same = equal (bytes_eq key c.args.name.now) (bytes_eq-Decides key c.args.name.now)
    c.in_ok-key.ensures.name in
    ap (option_map (λ content. content.items))
    (btree_map_updates_text key c.args.self.now.contents c.insert.new.self _
    c.in_ok-insert.ensures.updates c.args.name.now
    ∙ update_same bytes_eq (get_by_text c.args.self.now.contents) key
    (Some c.in_ok-key.content) c.args.name.now same)
    ∙ ap Some c.in_ok-key.ensures.content

pub returns-clause-others : goal.returns-clause-others
returns-clause-others c = λ n apart.
    let key = string_bytes c.in_ok-key.key in
    let other = differs (bytes_eq key n) (bytes_eq-Decides key n)
    (λ e. apart (sym e ∙ c.in_ok-key.ensures.name)) in
    ap (option_map (λ content. content.items))
    (btree_map_updates_text key c.args.self.now.contents c.insert.new.self _
    c.in_ok-insert.ensures.updates n
    ∙ update_other bytes_eq (get_by_text c.args.self.now.contents) key
    (Some c.in_ok-key.content) n other)
