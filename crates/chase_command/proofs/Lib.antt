mod ChaseFirst
mod ChaseStatus
