use Rattle.std.proofs.Common.{◌++◌, codes, FitsSigned, w64, rules}
use Rattle.std.proofs.lemmas.Int.{to_z-of_z}
use Rattle.lp_model.proofs.Results.{on_err, on_err_map}
use Rattle.lp_model.proofs.Buffers.{grows_none, grows_front, grows_later}
use Rattle.lp_values.specs.Printed.{printed_stamp}
use Rattle.lp_values.specs.Civil.{civil_of}
use Rattle.lp_values.specs.declared.part.Part.TheVariants.{Both}
use Rattle.text_formats.specs.Styles.{line_of}
use Rattle.text_formats.specs.W3c.{w3c_head, w3c_style}
use Rattle.text_formats.proofs.Stopping.{behind, on_ok_map}
use Rattle.text_formats.proofs.w3c.add_head.Goals as goal

pub returns-in_err-add_moment-clause-err : goal.returns-in_err-add_moment-clause-err
unfolding w3c_head
returns-in_err-add_moment-clause-err c =
    let old = c.args.to.now in
    let new = c.add_moment.new.to in
    let first = codes "#Software: Log Parser\n#Version: 1.0\n#Date: " in
    let stamp = printed_stamp (civil_of c.args.moment) Both in
    let gap = codes "\n#Fields: " in
    on_err _ c.from_residual-in_err-add_moment.result
    (grows_front old new ((first ++ stamp) ++ gap) (line_of w3c_style c.args.names.now)
    (grows_front old new (first ++ stamp) gap (grows_later old c.add.new.self new first stamp c.in_ok-add.ensures.ok (grows_none c.add.new.self new stamp c.in_err-add_moment.ensures.err))))

pub returns-in_err-add-2-clause-err : goal.returns-in_err-add-2-clause-err
unfolding w3c_head
returns-in_err-add-2-clause-err c =
    let old = c.args.to.now in
    let new = c.add-2.new.self in
    let first = codes "#Software: Log Parser\n#Version: 1.0\n#Date: " in
    let stamp = printed_stamp (civil_of c.args.moment) Both in
    let gap = codes "\n#Fields: " in
    let fits : FitsSigned w64 c.args.moment = search rules in
    let moment = simp to_z-of_z at c.in_ok-add_moment.ensures.ok in
    let so_far = behind old c.add.new.self c.add_moment.new.to first stamp c.in_ok-add.ensures.ok moment in
    on_err _ c.from_residual-in_err-add-2.result
    (grows_front old new ((first ++ stamp) ++ gap) (line_of w3c_style c.args.names.now)
    (grows_later old c.add_moment.new.to new (first ++ stamp) gap so_far (grows_none c.add_moment.new.to new gap c.in_err-add-2.ensures.err)))

pub returns-clause-ok : goal.returns-clause-ok
unfolding w3c_head
returns-clause-ok c =
    let old = c.args.to.now in
    let first = codes "#Software: Log Parser\n#Version: 1.0\n#Date: " in
    let stamp = printed_stamp (civil_of c.args.moment) Both in
    let gap = codes "\n#Fields: " in
    let fits : FitsSigned w64 c.args.moment = search rules in
    let moment = simp to_z-of_z at c.in_ok-add_moment.ensures.ok in
    let so_far = behind old c.add.new.self c.add_moment.new.to first stamp c.in_ok-add.ensures.ok moment in
    let head = behind old c.add_moment.new.to c.add-2.new.self (first ++ stamp) gap so_far c.in_ok-add-2.ensures.ok in
    on_ok_map _ _ c.add_names.result (behind old c.add-2.new.self c.add_names.new.to ((first ++ stamp) ++ gap) (line_of w3c_style c.args.names.now) head) c.add_names.ensures.ok

pub returns-clause-err : goal.returns-clause-err
unfolding w3c_head
returns-clause-err c =
    let old = c.args.to.now in
    let first = codes "#Software: Log Parser\n#Version: 1.0\n#Date: " in
    let stamp = printed_stamp (civil_of c.args.moment) Both in
    let gap = codes "\n#Fields: " in
    let fits : FitsSigned w64 c.args.moment = search rules in
    let moment = simp to_z-of_z at c.in_ok-add_moment.ensures.ok in
    let so_far = behind old c.add.new.self c.add_moment.new.to first stamp c.in_ok-add.ensures.ok moment in
    let head = behind old c.add_moment.new.to c.add-2.new.self (first ++ stamp) gap so_far c.in_ok-add-2.ensures.ok in
    on_err_map _ _ c.add_names.result (grows_later old c.add-2.new.self c.add_names.new.to ((first ++ stamp) ++ gap) (line_of w3c_style c.args.names.now) head) c.add_names.ensures.err
