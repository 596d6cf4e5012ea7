mod SampleTerms
