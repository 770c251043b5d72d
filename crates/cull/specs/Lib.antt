-- Ellison's cull, labelled towards the end, in the order in which to read it. The theorems:
-- 1. Cull, `survivors`: after k stages the ways left from a node are exactly those from there with the least cost on the first k constraints.
-- 2. Stages, `cull-next`: the least labels of a stage, by the marks of its constraint alone and the letters, carry the cull on.
-- 3. Idle, `idle-stage`: a constraint of which no way has a mark needs no stage.
-- 4. CullLabels, `cull-closed` and `cull-attained`: the labels of the stages put together are labels for the whole cost.
-- 5. Survivors, `counts-fewest`, `ways-left` and `candidates-left`: the work slice after a stage, by the promise of the function that runs it: the
--    ways left are those that no way from their node beats on the constraints so far, by harmony (`Ways`, where `StagesDone` says it of all stages).
-- 6. TwoEngines, `two-engines`: the two engines give the same result and the same answer slice.
pub mod Laws
pub mod Subgraph
pub mod LeastLabels
pub mod Cull
pub mod Left
pub mod OneConstraint
pub mod Stages
pub mod Idle
pub mod CullLabels
pub mod FewestTold
pub mod Tables
pub mod Entering
pub mod Culling
pub mod Ways
pub mod Survivors
pub mod TwoEngines
mod Example
