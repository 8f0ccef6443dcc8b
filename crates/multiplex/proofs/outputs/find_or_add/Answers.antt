use Rattle.std.proofs.Common.{◌≡◌, ◌⊎◌, inr, ◌∷◌, [], ◌++◌, ℕ, Bool, false, true≢false, List, length, slice_get, Some, sym, ◌∙◌, ap, if◌then◌else◌}
use Rattle.std.proofs.lemmas.List.{map-append}
use Rattle.std.proofs.lemmas.Result.{IfOk-weaker, IfErr-weaker, on_ok_weaker}
use Rattle.std.specs.Map.{keys_of}
use Rattle.indexmap.specs.IndexMap.{keys}
use Rattle.log_listing.specs.Firsts.{is_among}
use Rattle.multiplex.specs.declared.place_fault.PlaceFault.TheVariants.{Memory}
use Rattle.multiplex.specs.Placing.{index_among, IsReason}
use Rattle.multiplex.proofs.Names.{is_found, index_new, name_at_end, name_found, both_ok}
use Rattle.multiplex.proofs.outputs.find_or_add.Goals as goal

pub add_name-requires : goal.add_name-requires
add_name-requires c = record { new = is_found c.args.names.now.entries c.args.key.now ∙ sym c.in-None.ensures.found }

pub returns-in-Some-clause-named : goal.returns-in-Some-clause-named
returns-in-Some-clause-named c = name_found (keys c.args.names.now) c.args.key.now c.in-Some.index (sym c.in-Some.ensures.index)

pub returns-in-Some-clause-names : goal.returns-in-Some-clause-names
returns-in-Some-clause-names c =
    let old = keys c.args.names.now in
    sym (ap (λ (b : Bool). if b then old else old ++ c.args.key.now ∷ []) (is_found c.args.names.now.entries c.args.key.now ∙ sym c.in-Some.ensures.found))

pub returns-in-Some-clause-new : goal.returns-in-Some-clause-new
returns-in-Some-clause-new c = λ new. absurd (true≢false (c.in-Some.ensures.found ∙ sym (is_found c.args.names.now.entries c.args.key.now) ∙ new))

pub returns-in-None-clause-index : goal.returns-in-None-clause-index
returns-in-None-clause-index c =
    let old = keys c.args.names.now in
    IfOk-weaker c.add_name.result (λ index. index ≡ length old) (λ index. index ≡ index_among old c.args.key.now)
    (λ index is. is ∙ sym (index_new old c.args.key.now (is_found c.args.names.now.entries c.args.key.now ∙ sym c.in-None.ensures.found))) c.add_name.ensures.index

pub returns-in-None-clause-named : goal.returns-in-None-clause-named
returns-in-None-clause-named c =
    let old = c.args.names.now.entries in
    let key = c.args.key.now in
    both_ok c.add_name.result (λ index. index ≡ length (keys_of old)) (λ index. c.add_name.new.names.entries ≡ old ++ (key, key) ∷ []) (λ index. slice_get (keys c.add_name.new.names) index ≡ Some key)
    (λ index is names. ap (λ (l : List (List ℕ × List ℕ)). slice_get (keys_of l) index) names ∙ ap (λ (l : List (List ℕ)). slice_get l index) (map-append (λ (e : List ℕ × List ℕ). e.0) old ((key, key) ∷ [])) ∙ ap (slice_get (keys_of old ++ key ∷ [])) is ∙ name_at_end (keys_of old) key)
    c.add_name.ensures.index c.add_name.ensures.names

pub returns-in-None-clause-names : goal.returns-in-None-clause-names
returns-in-None-clause-names c =
    let old = c.args.names.now.entries in
    let key = c.args.key.now in
    on_ok_weaker c.add_name.result
    (λ names. ap (λ (l : List (List ℕ × List ℕ)). keys_of l) names ∙ map-append (λ (e : List ℕ × List ℕ). e.0) old ((key, key) ∷ [])
    ∙ sym (ap (λ (b : Bool). if b then keys_of old else keys_of old ++ key ∷ []) (is_found old key ∙ sym c.in-None.ensures.found)))
    c.add_name.ensures.names

pub returns-in-None-clause-why : goal.returns-in-None-clause-why
returns-in-None-clause-why c =
    let old = keys c.args.names.now in
    let key = c.args.key.now in
    let reason = IsReason c.args.forbidden.now.keys old key in
    IfErr-weaker c.add_name.result reason (λ fault. (fault ≡ Memory) ⊎ ((is_among old key ≡ false) × reason fault))
    (λ fault is. inr (is_found c.args.names.now.entries key ∙ sym c.in-None.ensures.found, is)) c.add_name.ensures.why
