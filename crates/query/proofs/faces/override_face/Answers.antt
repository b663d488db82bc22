use Rattle.query.proofs.OverriddenFaces.{face_overridden}
use Rattle.query.proofs.faces.override_face.Goals as goal

pub returns : goal.returns
returns c =
    let start = c.args in
    face_overridden start.job.now start.at start.font
    c.byte_at-count.ensures c.with_pairs-paired.ensures c.given_at.ensures c.override_attributes-attributes.ensures
