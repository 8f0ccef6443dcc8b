use Rattle.std.proofs.Common.{◌≡◌, ◌++◌, ◌∷◌, [], ℕ, List, take, refl, ap, ◌∙◌, inl, inr}
use Rattle.lp_model.specs.Outside.{Folder, bytes_in}
use Rattle.disk_model.specs.Disk.{Files, At, Shortened}
use Rattle.memory_outside.specs.Files.{files_in}
use Rattle.memory_outside.specs.declared.store.Call.TheVariants.{Cut}
use Rattle.memory_outside.proofs.MemorySteps.{put_here, works_same, cut_seen, cut_still, cut_noted}
use Rattle.memory_outside.proofs.store.Store.cut.Goals as goal

pub returns-in_err-reserve-clause-crash : goal.returns-in_err-reserve-clause-crash
returns-in_err-reserve-clause-crash c = λ honest.
    let f = files_in c.args.self.now.files.items in
    let name = c.args.name.now in
    works_same (At name (Shortened c.args.to)) (cut_still name c.args.to) (files_in c.args.self.now.first.items) f f c.args.self.now.calls.items c.reserve.new.self.items refl c.in_err-reserve.ensures.items honest

pub returns-in_err-shorten-clause-crash : goal.returns-in_err-shorten-clause-crash
returns-in_err-shorten-clause-crash c = λ honest.
    let f = files_in c.args.self.now.files.items in
    let name = c.args.name.now in
    let same : files_in c.shorten.new.files.items ≡ f = ap (λ (d : Folder). λ n. bytes_in d n) c.in_err-shorten.ensures.err in
    works_same (At name (Shortened c.args.to)) (cut_still name c.args.to) (files_in c.args.self.now.first.items) f (files_in c.shorten.new.files.items) c.args.self.now.calls.items c.reserve.new.self.items same c.in_ok-reserve.ensures.items honest

pub returns-in_err-shorten-clause-shows : goal.returns-in_err-shorten-clause-shows
returns-in_err-shorten-clause-shows c =
    let f = files_in c.args.self.now.files.items in
    let same : files_in c.shorten.new.files.items ≡ f = ap (λ (d : Folder). λ n. bytes_in d n) c.in_err-shorten.ensures.err in
    record { tells = tt; seen = cut_seen f (files_in c.shorten.new.files.items) c.args.name.now c.args.to (inl same) }

pub returns-clause-crash : goal.returns-clause-crash
returns-clause-crash c = λ honest.
    let f = files_in c.args.self.now.files.items in
    let calls = c.args.self.now.calls.items in
    let name = c.args.name.now in
    let kept : c.reserve.new.self.items ≡ calls = c.in_ok-reserve.ensures.items in
    let as_name : c.copy.result ≡ name = c.copy.ensures in
    cut_noted (files_in c.args.self.now.first.items) f (files_in c.shorten.new.files.items) calls c.push.new.self.items name c.args.to (inr c.in_ok-shorten.ensures.ok) (c.in_ok-push.ensures.items ∙ (λ i. kept i ++ Cut (as_name i) c.args.to ∷ [])) honest

pub returns-clause-shows : goal.returns-clause-shows
returns-clause-shows c =
    let f = files_in c.args.self.now.files.items in
    record { tells = tt; seen = cut_seen f (files_in c.shorten.new.files.items) c.args.name.now c.args.to (inr c.in_ok-shorten.ensures.ok) }

pub returns-clause-ok : goal.returns-clause-ok
returns-clause-ok c =
    let f = files_in c.args.self.now.files.items in
    let name = c.args.name.now in
    ap (λ (h : Files). h name) c.in_ok-shorten.ensures.ok ∙ put_here name (take c.args.to (f name)) f
