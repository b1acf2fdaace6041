mod Asked
mod DescribedKinds
