mod BitsOn
mod SamplesOn
