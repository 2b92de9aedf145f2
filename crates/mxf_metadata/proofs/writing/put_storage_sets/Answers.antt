use Rattle.std.proofs.Common.{[], ◌∷◌, ◌++◌, arith}
use Rattle.mxf_metadata.specs.Metadata.{metadata_set, storage_sets}
use Rattle.mxf_metadata.specs.Sets.{preface, identification, content_storage, essence_container, material_package}
use Rattle.mxf_metadata.specs.declared.labels.TheConstants.{CONTAINER_SET, IDENTIFICATION_SET, MATERIAL_SET, PREFACE_SET, STORAGE_SET}
use Rattle.mxf_metadata.proofs.Joins.{joined, known}
use Rattle.mxf_metadata.proofs.writing.put_storage_sets.Goals as goal

pub returns-clause-written : goal.returns-clause-written
unfolding storage_sets
returns-clause-written c =
    let step_0 = known c.args.out.now c.put_one-second.new.out c.args.at c.put_one-second.result PREFACE_SET c.preface.result (preface c.args.ids.now) c.preface.ensures.is c.put_one-second.ensures.written in
    let step_1 = known c.put_one-second.new.out c.put_one-third.new.out c.put_one-second.result c.put_one-third.result IDENTIFICATION_SET c.identification.result (identification c.args.ids.now) c.identification.ensures.is c.put_one-third.ensures.written in
    let front_1 = joined c.args.out.now c.put_one-second.new.out c.put_one-third.new.out c.args.at c.put_one-second.result c.put_one-third.result (metadata_set PREFACE_SET (preface c.args.ids.now) ∷ []) (metadata_set IDENTIFICATION_SET (identification c.args.ids.now) ∷ []) (omega arith) step_0 step_1 in
    let step_2 = known c.put_one-third.new.out c.put_one-fourth.new.out c.put_one-third.result c.put_one-fourth.result STORAGE_SET c.content_storage.result (content_storage c.args.ids.now) c.content_storage.ensures.is c.put_one-fourth.ensures.written in
    let front_2 = joined c.args.out.now c.put_one-third.new.out c.put_one-fourth.new.out c.args.at c.put_one-third.result c.put_one-fourth.result ((metadata_set PREFACE_SET (preface c.args.ids.now) ∷ []) ++ (metadata_set IDENTIFICATION_SET (identification c.args.ids.now) ∷ [])) (metadata_set STORAGE_SET (content_storage c.args.ids.now) ∷ []) (omega arith) front_1 step_2 in
    let step_3 = known c.put_one-fourth.new.out c.put_one-fifth.new.out c.put_one-fourth.result c.put_one-fifth.result CONTAINER_SET c.essence_container.result (essence_container c.args.ids.now) c.essence_container.ensures.is c.put_one-fifth.ensures.written in
    let front_3 = joined c.args.out.now c.put_one-fourth.new.out c.put_one-fifth.new.out c.args.at c.put_one-fourth.result c.put_one-fifth.result (((metadata_set PREFACE_SET (preface c.args.ids.now) ∷ []) ++ (metadata_set IDENTIFICATION_SET (identification c.args.ids.now) ∷ [])) ++ (metadata_set STORAGE_SET (content_storage c.args.ids.now) ∷ [])) (metadata_set CONTAINER_SET (essence_container c.args.ids.now) ∷ []) (omega arith) front_2 step_3 in
    let step_4 = known c.put_one-fifth.new.out c.put_one.new.out c.put_one-fifth.result c.put_one.result MATERIAL_SET c.material_package.result (material_package c.args.ids.now) c.material_package.ensures.is c.put_one.ensures.written in
    let front_4 = joined c.args.out.now c.put_one-fifth.new.out c.put_one.new.out c.args.at c.put_one-fifth.result c.put_one.result ((((metadata_set PREFACE_SET (preface c.args.ids.now) ∷ []) ++ (metadata_set IDENTIFICATION_SET (identification c.args.ids.now) ∷ [])) ++ (metadata_set STORAGE_SET (content_storage c.args.ids.now) ∷ [])) ++ (metadata_set CONTAINER_SET (essence_container c.args.ids.now) ∷ [])) (metadata_set MATERIAL_SET (material_package c.args.ids.now) ∷ []) (omega arith) front_3 step_4 in
    front_4
